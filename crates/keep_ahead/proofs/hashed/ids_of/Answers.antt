use Rattle.std.proofs.Common.{◌∙◌, List, ap, map, ℕ}
use denote.Ref.{Bor}
use Rattle.keep_names.specs.Sha256.{sha256}
use Rattle.keep_ahead.proofs.OwnIds.{hashes_of}
use Rattle.keep_ahead.proofs.hashed.ids_of.Goals as goal

pub returns : goal.returns
returns g c =
    c.in_ok-ids.ensures
    ∙ ap (map (λ (text : Bor (List ℕ)). sha256 text.now)) c.deref.ensures.value
    ∙ hashes_of c.in_ok-texts.texts.items c.args.pieces.now c.in_ok-texts.ensures
