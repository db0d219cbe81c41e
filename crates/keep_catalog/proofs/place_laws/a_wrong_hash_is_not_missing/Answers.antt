use Rattle.keep_catalog.proofs.Missing.{missing_honest, missing_unlisted, missing_wrong}
use Rattle.keep_catalog.proofs.place_laws.a_wrong_hash_is_not_missing.Goals as goal

pub returns : goal.returns
returns c = record { wrong = missing_wrong; honest = missing_honest; nowhere = missing_unlisted }
