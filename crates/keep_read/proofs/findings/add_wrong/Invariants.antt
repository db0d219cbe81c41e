use Rattle.std.proofs.Common.{◌≡◌, ◌++◌, map, take}
use Rattle.keep_read.specs.declared.finding.Finding.TheVariants.{WrongBlob}
use Rattle.keep_read.proofs.findings.add_wrong.Given as goal

abbrev pub invariant-loop-pack : goal.invariant-loop-pack
invariant-loop-pack l = l.findings.items ≡ l.initial.findings.items ++ map (λ w. WrongBlob w.0 w.1) (take l.pack-index l.wrong)
