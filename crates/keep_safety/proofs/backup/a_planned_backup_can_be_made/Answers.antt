use Rattle.keep_backup.proofs.Committed.{backup_met, backup_well_formed}
use Rattle.keep_safety.proofs.backup.a_planned_backup_can_be_made.Goals as goal

pub returns : goal.returns
returns c = record { well_formed = backup_well_formed; met = backup_met }
