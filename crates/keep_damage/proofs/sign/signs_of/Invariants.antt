use Rattle.std.proofs.Common.{◌≡◌, ◌++◌, drop, map}
use Rattle.keep_damage.specs.Entries.{sign_of}
use Rattle.keep_damage.proofs.sign.signs_of.Given as goal

abbrev pub invariant-loop-leaf : goal.invariant-loop-leaf
invariant-loop-leaf l = l.signs.items ++ map sign_of (drop l.leaf-index l.leaves) ≡ map sign_of l.leaves
