-- A front of a list, and what comes behind it.
use Rattle.std.proofs.Common.{◌≡◌, ◌+◌, ℕ, List, ◌++◌, take, drop, sym, ◌∙◌, arith}
use Rattle.std.proofs.lemmas.List.{drop-take, take-append-drop, take-take}

pub front_more : (n m : ℕ) (xs : List ℕ) → take n xs ++ take m (drop n xs) ≡ take (n + m) xs
front_more n m xs =
    (λ i. sym (take-take n (n + m) xs (omega arith)) i ++ sym (drop-take n m xs) i)
    ∙ take-append-drop n (take (n + m) xs)
