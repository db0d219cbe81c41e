use Rattle.std.proofs.Common.{ℕ, List, Bor, map, ap, ◌∙◌}
use Rattle.keep_names.specs.declared.id.Id.{Id}
use Rattle.keep_entries.proofs.HeldFiles.{hashed}
use Rattle.keep_entries.proofs.held_files.named_by_bytes.Goals as goal

pub with_ids-requires : goal.with_ids-requires
with_ids-requires g c =
    let pieces = hashed (λ (piece : Bor (List ℕ)). piece.now) c.in_ok-pieces.pieces.items c.args.files.now c.in_ok-pieces.ensures in
    let ids = rw c.deref.ensures.value at c.in_ok-ids.ensures in
    ap (λ (all : List Id). map (λ (id : Id). id.0) all) c.deref-2.ensures.value ∙ ids ∙ pieces
