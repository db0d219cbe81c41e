use Rattle.std.proofs.Common.{ℕ, List, Bor, ◌∙◌, ap, map}
use Rattle.keep_names.specs.declared.id.Id.{Id}
use Rattle.keep_read.proofs.HashedFiles.{hashed}
use Rattle.keep_read.proofs.wrong_names.hash_files.Goals as goal

pub add_misnamed-requires : goal.add_misnamed-requires
add_misnamed-requires g c =
    ap (map (λ (id : Id). id.0)) c.deref-2.ensures.value
    ∙ c.in_ok-ids.ensures
    ∙ hashed (λ (piece : Bor (List ℕ)). piece.now) c.args.repo.now _ c.args.names.now
    (ap (map (λ (piece : Bor (List ℕ)). piece.now)) c.deref.ensures.value ∙ c.in_ok-pieces.ensures)
