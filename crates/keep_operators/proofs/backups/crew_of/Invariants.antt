use Rattle.std.proofs.Common.{◌≡◌, length}
use Rattle.keep_jobs.specs.Job.{settings_view}
use Rattle.keep_operators.specs.Asked.{AreAsked}
use Rattle.keep_operators.specs.Backups.{backup_of}
use Rattle.keep_operators.proofs.backups.crew_of.Given as goal

abbrev pub invariant-loop-operator : goal.invariant-loop-operator
invariant-loop-operator l = record {
  long : length l.works.items ≡ l.operator;
  asked : AreAsked (settings_view l.settings) (backup_of l.time) l.works.items;
}
