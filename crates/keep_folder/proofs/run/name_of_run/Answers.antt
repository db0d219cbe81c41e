use Rattle.std.proofs.Common.{arith}
use Rattle.keep_folder.proofs.RunName.{run_name}
use Rattle.keep_folder.proofs.run.name_of_run.Goals as goal

pub returns : goal.returns
returns g c = run_name _ c.unwrap_or-moment.result (omega arith) c.in_ok-format.ensures.ok
