use Rattle.keep_journal.proofs.KeptTold.{is_kept_by, is_open, marks_is}
use Rattle.keep_journal.proofs.Long.{as_long}
use Rattle.keep_journal.proofs.lasting_laws.what_lasts_is_kept.Goals as goal

pub returns : goal.returns
returns c = record { kept = is_kept_by; stays = is_open; long = as_long; marks = marks_is }
