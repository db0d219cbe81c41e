use Rattle.std.proofs.Common.{map, take}
use Rattle.std.specs.List.{AllZip}
use Rattle.keep_restores.specs.Wanted.{IsWantedOf}
use Rattle.keep_restores.proofs.wanting.wanted_for.Given as goal

abbrev pub invariant-loop-entry : goal.invariant-loop-entry
invariant-loop-entry l = AllZip IsWantedOf (map (λ entry. entry.now) (take l.entry-index l.entries)) l.all.items
