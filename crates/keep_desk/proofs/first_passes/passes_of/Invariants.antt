use Rattle.std.proofs.Common.{◌≡◌, ◌+◌, length}
use Rattle.keep_register.specs.Known.{AreFresh}
use Rattle.keep_desk.proofs.first_passes.passes_of.Given as goal

abbrev pub invariant-loop : goal.invariant-loop
invariant-loop g l =
    (l.rest.parts + length l.passes.items ≡ l.count)
    × (l.rest.amount ≡ 0)
    × (length l.passes.items ≡ l.counter)
    × AreFresh l.passes.items
