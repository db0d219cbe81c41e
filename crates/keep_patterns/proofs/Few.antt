-- How many rests there are at most.
use Rattle.std.proofs.Common.{◌≡◌, ◌≤◌, ℕ, ◌+◌, Bool, true, false, cond, List, [], ◌∷◌, ◌++◌, length, arith, length-append}
use Rattle.std.proofs.lemmas.List.{length-map}
use Rattle.std.proofs.lemmas.List.FromFn.{length-range_with_len}
use Rattle.std.proofs.lemmas.List.Sums.{sum_by-cons}
use Rattle.std.specs.Prelude.{filter, sum_by, take}
use Rattle.std.specs.List.{enumerate_from, flat_map, range_with_len}
use Rattle.keep_patterns.specs.Matching.{matches}
use Rattle.keep_patterns.specs.Parsing.{PatternData}
use Rattle.keep_patterns.specs.Rests.{left_at, left_of, used_at}
use Rattle.keep_patterns.proofs.Left.{rest_of}

fewer : {X : Type 0} (test : X → Bool) (xs : List X) → length (filter test xs) ≤ length xs
fewer test [] = omega arith
fewer test (x ∷ xs) = by (test x) (fewer test xs)
  where
    by : (b : Bool) → length (filter test xs) ≤ length xs → length (cond b (x ∷ filter test xs) (filter test xs)) ≤ length (x ∷ xs)
    by true low = omega arith
    by false low = omega arith

few_of : (path : List (List ℕ)) (index : ℕ) (pattern : PatternData) → length (left_of path (index, pattern)) ≤ length pattern.1 + 1
few_of path index pattern =
    let numbers = range_with_len 0 (length pattern.1 + 1) in
    let same : length (left_of path (index, pattern)) ≡ length (used_at path pattern) = length-map (used_at path pattern) (rest_of index) in
    let low : length (used_at path pattern) ≤ length numbers = fewer (λ used. matches pattern.0 (take used pattern.1) path) numbers in
    let all : length numbers ≡ length pattern.1 + 1 = length-range_with_len 0 (length pattern.1 + 1) in
    omega arith

few_from : (path : List (List ℕ)) (index : ℕ) (patterns : List PatternData)
    → length (flat_map (left_of path) (enumerate_from index patterns)) ≤ sum_by (λ (pattern : PatternData). length pattern.1 + 1) patterns
few_from path index [] = omega arith
few_from path index (pattern ∷ patterns) =
    let rest = flat_map (left_of path) (enumerate_from (index + 1) patterns) in
    let parts : length (left_of path (index, pattern) ++ rest) ≡ length (left_of path (index, pattern)) + length rest = length-append (left_of path (index, pattern)) rest in
    let one : length (left_of path (index, pattern)) ≤ length pattern.1 + 1 = few_of path index pattern in
    let others : length rest ≤ sum_by (λ (pattern : PatternData). length pattern.1 + 1) patterns = few_from path (index + 1) patterns in
    let total : sum_by (λ (pattern : PatternData). length pattern.1 + 1) (pattern ∷ patterns) ≡ (length pattern.1 + 1) + sum_by (λ (pattern : PatternData). length pattern.1 + 1) patterns =
    sum_by-cons (λ (pattern : PatternData). length pattern.1 + 1) pattern patterns in
    omega arith

pub few_left : (patterns : List PatternData) (path : List (List ℕ)) → length (left_at patterns path) ≤ sum_by (λ (pattern : PatternData). length pattern.1 + 1) patterns
few_left patterns path = few_from path 0 patterns
