use Rattle.std.proofs.Common.{◌≡◌, drop}
use Rattle.keep_opening.specs.Settling.{swept_in}
use Rattle.keep_opening.proofs.settling.clear.Given as goal

-- with the keys that are left swept, it is with all swept
abbrev pub invariant-loop-key : goal.invariant-loop-key
invariant-loop-key l = swept_in l.n (drop l.key-index l.key-items) l.stock ≡ swept_in l.n l.key-items l.initial.stock
