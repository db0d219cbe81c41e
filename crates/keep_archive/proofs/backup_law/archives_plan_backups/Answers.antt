use Rattle.keep_archive.proofs.Cuts.{both_written}
use Rattle.keep_archive.proofs.Given.{archives_alike, folder_held}
use Rattle.keep_archive.proofs.backup_law.archives_plan_backups.Goals as goal

pub returns : goal.returns
returns c = record {
  writes = both_written;
  held = λ cut folder made pos gives. folder_held cut pos folder made gives;
  planned = archives_alike;
}
