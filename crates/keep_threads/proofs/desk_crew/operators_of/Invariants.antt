use Rattle.std.proofs.Common.{◌≡◌, None, map, vec_capacity}
use Rattle.keep_threads.proofs.desk_crew.operators_of.Given as goal

abbrev pub invariant-loop-pass : goal.invariant-loop-pass
invariant-loop-pass g l =
    (goal.iterator-loop-pass g).can_next l.pass-iterator
    × (goal.iterator-loop-pass g).is_finite l.pass-iterator
    × (l.operators.items ≡ map (λ given. record { pass = given.0; work = given.1; answer = None }) l.yielded)
    × (vec_capacity l.operators ≡ vec_capacity l.fn.room)
