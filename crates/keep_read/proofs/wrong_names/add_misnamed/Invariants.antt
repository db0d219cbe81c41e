use Rattle.std.proofs.Common.{◌≡◌, ◌++◌, filter, length, map, take}
use Rattle.keep_read.specs.Findings.{is_misnamed}
use Rattle.keep_read.specs.declared.finding.Finding.TheVariants.{WrongName}
use Rattle.keep_read.proofs.wrong_names.add_misnamed.Given as goal

abbrev pub invariant-loop-name : goal.invariant-loop-name
invariant-loop-name l =
    l.findings.items ≡ l.initial.findings.items ++ map WrongName (filter (is_misnamed l.repo) (take (length l.yielded) l.names))
