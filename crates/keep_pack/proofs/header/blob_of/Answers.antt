use Rattle.std.proofs.Common.{◌≡◌, ℕ, List, ap, arith, drop, length-drop, ◌∙◌}
use Rattle.std.proofs.lemmas.List.{take_all}
use Rattle.keep_names.specs.declared.blob.BlobId.{BlobId}
use Rattle.keep_names.specs.declared.blob.BlobType.{BlobType}
use Rattle.keep_pack.proofs.header.blob_of.Goals as goal

abbrev named : List ℕ → BlobType → BlobId
named id blob_type = record { id = record { 0 = id }; blob_type = blob_type }

pub returns : goal.returns
returns c =
    let rest : c.copy_from_slice.new.self ≡ drop 5 c.args.raw.now =
    c.copy_from_slice.ensures.after
    ∙ take_all 32 (drop 5 c.args.raw.now) (omega (arith, length-drop 5 c.args.raw.now)) in
    ap (λ (id : List ℕ). named id c.blob_type_of.result) rest
    ∙ ap (λ (t : BlobType). named (drop 5 c.args.raw.now) t) c.blob_type_of.ensures
