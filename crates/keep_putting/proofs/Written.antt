-- One piece more was written.
use Rattle.std.proofs.Common.{◌≡◌, ℕ, ◌<◌, ◌+◌, ◌^◌, ◌-◌, min, List, [], ◌∷◌, ◌++◌, length, take, get_or, Some, is_some, true, sum_by, sym, ap, ◌∙◌, append_assoc, arith}
use Rattle.std.proofs.lemmas.List.{map_more}
use Rattle.std.proofs.lemmas.List.Elements.{All-more}
use Rattle.std.proofs.lemmas.List.Sums.{sum_by_more}
use Rattle.keep_names.specs.declared.id.Id.{Id}
use Rattle.keep_targets.specs.Call.{Append, Call, Did}
use Rattle.keep_putting.specs.Filling.{AreHad, Source, bytes_in, pieces_size, writing}

saturated : (a b w : ℕ) → w ≡ min a (2 ^ 64 - 1) → min (w + b) (2 ^ 64 - 1) ≡ min (a + b) (2 ^ 64 - 1)
saturated a b w same = omega arith

pub calls_more : (pieces : Source) (place bytes : List ℕ) (ids : List Id) (k : ℕ) (d : Id) (before between after : List Call) → k < length ids
    → Some bytes ≡ pieces (get_or ids k d) → between ≡ before ++ writing pieces place (take k ids)
    → after ≡ between ++ Did (Append place bytes) ∷ [] → after ≡ before ++ writing pieces place (take (k + 1) ids)
calls_more pieces place bytes ids k d before between after inside is first next =
    let one : Id → Call = λ id. Did (Append place (bytes_in (pieces id))) in
    next
    ∙ ap (λ (c : List Call). c ++ Did (Append place bytes) ∷ []) first
    ∙ append_assoc before (writing pieces place (take k ids)) (Did (Append place bytes) ∷ [])
    ∙ ap (λ o. before ++ (writing pieces place (take k ids) ++ Did (Append place (bytes_in o)) ∷ [])) is
    ∙ ap (λ (c : List Call). before ++ c) (sym (map_more one ids k d inside))

pub had_more : (pieces : Source) (bytes : List ℕ) (ids : List Id) (k : ℕ) (d : Id) → k < length ids → Some bytes ≡ pieces (get_or ids k d)
    → AreHad pieces (take k ids) → AreHad pieces (take (k + 1) ids)
had_more pieces bytes ids k d inside is had = All-more (λ id. is_some (pieces id) ≡ true) ids k d inside had (sym (ap is_some is))

pub size_more : (pieces : Source) (bytes : List ℕ) (ids : List Id) (k : ℕ) (d : Id) (written : ℕ) → k < length ids → Some bytes ≡ pieces (get_or ids k d)
    → written ≡ pieces_size pieces (take k ids) → min (written + length bytes) (2 ^ 64 - 1) ≡ pieces_size pieces (take (k + 1) ids)
size_more pieces bytes ids k d written inside is same =
    let one : Id → ℕ = λ id. length (bytes_in (pieces id)) in
    let more = sum_by_more one ids k d inside in
    let len : length bytes ≡ one (get_or ids k d) = ap (λ o. length (bytes_in o)) is in
    let sum : sum_by one (take (k + 1) ids) ≡ sum_by one (take k ids) + length bytes = more ∙ ap (λ n. sum_by one (take k ids) + n) (sym len) in
    saturated (sum_by one (take k ids)) (length bytes) written same
    ∙ ap (λ n. min n (2 ^ 64 - 1)) (sym sum)
