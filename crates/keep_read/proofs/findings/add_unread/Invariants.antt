use Rattle.std.proofs.Common.{◌≡◌, ◌++◌, map, take}
use Rattle.keep_read.specs.declared.finding.Finding.TheVariants.{Unreadable}
use Rattle.keep_read.proofs.findings.add_unread.Given as goal

abbrev pub invariant-loop-file : goal.invariant-loop-file
invariant-loop-file l = l.findings.items ≡ l.initial.findings.items ++ map Unreadable (take l.file-index l.unread)
