use Rattle.keep_journal.proofs.KeptTold.{told_grows, told_is_told, told_shrinks}
use Rattle.keep_journal.proofs.lasting_laws.what_lasts_grows.Goals as goal

pub returns : goal.returns
returns c = record { once = told_is_told; grows = told_grows; shrinks = told_shrinks }
