-- A read that stops past the limit, and stayed within it, met the end.
use Rattle.std.proofs.Common.{◌≡◌, ℕ, ◌+◌, ◌≤◌, List, [], ◌++◌, length, take, ap, ◌∙◌, IfSome, arith}
use Rattle.std.specs.Prelude.{Option, None, Some, option_map}
use Rattle.std.proofs.lemmas.List.{length-take, take_all}

pub whole_if_short : (limit : ℕ) (left : Option (List ℕ)) (before bytes : List ℕ) → before ≡ []
    → IfSome (option_map (take (limit + 1)) left) (λ read. bytes ≡ before ++ read) → length bytes ≤ limit
    → IfSome left (λ all. bytes ≡ all)
whole_if_short limit None before bytes none reads short = reads
whole_if_short limit (Some all) before bytes none reads short =
    let read : bytes ≡ take (limit + 1) all = reads ∙ ap (λ front. front ++ take (limit + 1) all) none in
    let fits : length all ≤ limit + 1 = omega (arith, short, ap length read, length-take (limit + 1) all) in
    read ∙ take_all (limit + 1) all fits
