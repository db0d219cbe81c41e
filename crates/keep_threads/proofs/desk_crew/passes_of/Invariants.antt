use Rattle.std.proofs.Common.{◌≡◌, ◌≤◌, ◌+◌, map, vec_len, vec_capacity}
use Rattle.std.specs.Vec.Iter.{into_iter_len}
use Rattle.keep_threads.proofs.desk_crew.passes_of.Given as goal

abbrev pub invariant-loop-operator : goal.invariant-loop-operator
invariant-loop-operator g l = record {
  taken : l.passes.items ≡ map (λ operator. operator.pass) l.yielded;
  room : vec_len l.passes + into_iter_len l.operator-iterator ≤ vec_capacity l.passes;
}
