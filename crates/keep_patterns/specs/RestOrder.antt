-- The order of rests, by which a map finds them.
use Rattle.std.specs.Prelude.{List}
use Rattle.std.specs.Cmp.{IsTotalOrder, nat_cmp_total, on_total, then_total}
use Rattle.std.specs.Cmp.Lexicographic.{lists_total, slice_cmp}
use Rattle.std.specs.Ordering.{nat_cmp, on, then_cmp}
use Rattle.std.specs.declared.cmp.Ordering.{Ordering}
use Rattle.keep_patterns.specs.declared.rest.Rest.{Rest}

-- by pattern, and then by how many components are used
abbrev pub rest_cmp : Rest → Rest → Ordering
rest_cmp = then_cmp (on (λ (rest : Rest). rest.pattern) nat_cmp) (on (λ (rest : Rest). rest.used) nat_cmp)

-- the first that differ decide
abbrev pub rests_cmp : List Rest → List Rest → Ordering
rests_cmp = slice_cmp rest_cmp

pub rests_total : IsTotalOrder rests_cmp
rests_total =
    lists_total (then_total (on_total (λ (rest : Rest). rest.pattern) nat_cmp_total) (on_total (λ (rest : Rest). rest.used) nat_cmp_total))
