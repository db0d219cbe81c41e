-- Numbers of events that are put into a set one after another.
use Rattle.std.proofs.Common.{◌≡◌, ℕ, ◌+◌, ◌<◌, ◌==◌, Bool, true, false, cond, ◌||◌, List, [], ◌∷◌, get_or, length, take, refl, sym, ap, ◌∙◌}
use Rattle.std.specs.List.{list_any}
use Rattle.std.specs.Ordering.{is_eq, nat_cmp}
use Rattle.std.proofs.lemmas.Bool.Decides.{nat_tests}
use Rattle.std.proofs.lemmas.List.{take_more}
use Rattle.std.proofs.lemmas.List.Folds.{list_any-append}
use Rattle.std.proofs.Common.{arith}
use Rattle.keep_journal.specs.declared.event.Notice.{Notice}

abbrev has : ℕ → List Notice → Bool
has k ns = list_any (λ (x : Notice). x.at == k) ns

same_number : (a k : ℕ) → is_eq (nat_cmp a k) ≡ (a == k)
same_number a k = grind (arith, nat_tests)

pub next_number : (ns : List Notice) (i k : ℕ) (d : Notice) (b : Bool) → i < length ns → b ≡ has k (take i ns)
    → cond (is_eq (nat_cmp (get_or ns i d).at k)) true b ≡ has k (take (i + 1) ns)
next_number ns i k d b within is =
    by (is_eq (nat_cmp (get_or ns i d).at k)) b
    ∙ ap (λ t. b || (t || false)) (same_number (get_or ns i d).at k) ∙ ap (λ t. t || ((get_or ns i d).at == k || false)) is
    ∙ sym (ap (has k) (take_more ns i d within) ∙ list_any-append (λ (x : Notice). x.at == k) (take i ns) (get_or ns i d ∷ []))
  where
    by : (t u : Bool) → cond t true u ≡ (u || (t || false))
    by true true = refl
    by true false = refl
    by false true = refl
    by false false = refl
