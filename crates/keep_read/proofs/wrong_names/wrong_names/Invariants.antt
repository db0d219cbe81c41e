use Rattle.std.proofs.Common.{◌≡◌, ◌++◌, filter, length, map}
use Rattle.keep_read.specs.Findings.{is_misnamed, misnamed_in}
use Rattle.keep_read.specs.declared.finding.Finding.TheVariants.{WrongName}
use Rattle.keep_read.proofs.wrong_names.wrong_names.Given as goal

abbrev pub invariant-loop-rest : goal.invariant-loop-rest
invariant-loop-rest g l = l.findings.items ++ map WrongName (filter (is_misnamed l.repo) l.rest) ≡ map WrongName (misnamed_in l.repo)

abbrev pub decreases-loop-rest : goal.decreases-loop-rest
decreases-loop-rest g l = length l.rest
