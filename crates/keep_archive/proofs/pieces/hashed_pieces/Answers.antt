-- The id that was taken off is that of the bytes behind the pieces.
use Rattle.std.proofs.Common.{Bor, List, ◌∙◌, ap, arith, map, ℕ}
use Rattle.std.specs.Vec.{vec_len}
use Rattle.keep_names.specs.Sha256.{sha256}
use Rattle.keep_names.specs.declared.id.Id.{Id}
use Rattle.keep_archive.proofs.Hashed.{ids_before}
use Rattle.keep_archive.proofs.pieces.hashed_pieces.Goals as goal

pub returns-clause-pieces : goal.returns-clause-pieces
returns-clause-pieces g c =
    ap (map (λ (id : Id). id.0)) c.pop-rest.ensures.rest
    ∙ ids_before (vec_len c.in_ok-ids.ids) c.in_ok-ids.ids.items c.in_ok-texts.texts.items c.args.rest c.args.pieces.now
    (omega (arith, c.in_ok-ids.ids.ok.0)) c.in_ok-texts.ensures
    (c.in_ok-ids.ensures ∙ ap (map (λ (text : Bor (List ℕ)). sha256 text.now)) (c.deref.ensures.value ∙ c.in_ok-push.ensures.items))
