use Rattle.std.proofs.Common.{◌≡◌, vec_len}
use Rattle.keep_desk.proofs.Counting.{AreTaken}
use Rattle.keep_desk.proofs.gathering.gather.Given as goal

abbrev pub invariant-loop-pass : goal.invariant-loop-pass
invariant-loop-pass g l =
    AreTaken l.fn.register.events l.fn.passes.items l.passes.items l.rest.parts l.rest.amount × (l.register ≡ l.fn.register)

abbrev pub decreases-loop-pass : goal.decreases-loop-pass
decreases-loop-pass g l = vec_len l.passes
