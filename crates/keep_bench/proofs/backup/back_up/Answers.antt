use Rattle.keep_bench.proofs.Added.{backup_adds}
use Rattle.keep_bench.proofs.backup.back_up.Goals as goal

pub change_summary-requires : goal.change_summary-requires
change_summary-requires c = backup_adds _ _ _ _ _ c.in_ok-plan.ensures
