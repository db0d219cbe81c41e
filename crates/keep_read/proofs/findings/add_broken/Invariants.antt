use Rattle.std.proofs.Common.{◌≡◌, ◌++◌, map, take}
use Rattle.keep_read.specs.declared.finding.Finding.TheVariants.{Broken}
use Rattle.keep_read.proofs.findings.add_broken.Given as goal

abbrev pub invariant-loop-snapshot : goal.invariant-loop-snapshot
invariant-loop-snapshot l = l.findings.items ≡ l.initial.findings.items ++ map (λ b. Broken b.0 b.1) (take l.snapshot-index l.broken)
