-- Which changes the mentions of a facet after a number are of.
use Rattle.std.proofs.Common.{◌≡◌, ℕ, ◌+◌, ◌<◌, ◌==◌, nat_lt, Bool, true, false, ◌&&◌, ◌||◌, cond, List, [], ◌∷◌, Option, Some, None, inl, inr, refl, ap, ◌∙◌, arith}
use Rattle.std.specs.List.{cons_option, filter, filter_map, find, list_any}
use Rattle.std.specs.Option.{is_some, option_map, option_map_or}
use Rattle.std.proofs.lemmas.Bool.{cases_eq, eq-eqb, ne_eqb}
use Rattle.keep_repo.specs.declared.facet.Facet.{Facet}
use Rattle.keep_change.specs.Fold.{Numbered}
use Rattle.keep_change.specs.Touch.{touches, writes}
use Rattle.keep_journal.specs.History.{committed, CountsFrom, IsNumbered}
use Rattle.keep_journal.specs.Journal.{Journal}
use Rattle.keep_journal.specs.Kept.{is_kept}
use Rattle.keep_touch.specs.Finding.{in_force}
use Rattle.keep_touch.specs.Mentions.{mention_of, mentions, AreNoted}
use Rattle.keep_touch.specs.declared.touch.Touch.{Touch}
use Rattle.keep_touch.specs.Gathering.{touches_after}

-- ---- lists

module _ {X : Type 0} where
  any_agree : (p q : X → Bool) → ((x : X) → p x ≡ q x) → (xs : List X) → list_any p xs ≡ list_any q xs
  any_agree p q same xs = λ i. list_any (λ x. same x i) xs

  any-filter : (p q : X → Bool) (xs : List X) → list_any p (filter q xs) ≡ list_any (λ x. q x && p x) xs
  any-filter p q [] = refl
  any-filter p q (x ∷ xs) = one (q x) (any-filter p q xs)
    where
      one : (b : Bool) → list_any p (filter q xs) ≡ list_any (λ x. q x && p x) xs
          → list_any p (cond b (x ∷ filter q xs) (filter q xs)) ≡ ((b && p x) || list_any (λ x. q x && p x) xs)
      one true rest = ap (λ b. p x || b) rest
      one false rest = rest

-- a test of the numbers finds the same among the mentions and among the changes that touch the facet
any_mention : (s : ℕ → Bool) (q : Facet) (ns : List Numbered)
    → list_any (λ m. s m.number) (filter_map (mention_of q) ns) ≡ list_any (λ n. touches n.change q && s n.number) ns
any_mention s q [] = refl
any_mention s q (n ∷ ns) = one (touches n.change q) (any_mention s q ns)
  where
    one : (b : Bool) → list_any (λ m. s m.number) (filter_map (mention_of q) ns) ≡ list_any (λ n. touches n.change q && s n.number) ns
        → list_any (λ m. s m.number) (cons_option (cond b (Some (record { number = n.number; writes = writes n.change q })) None) (filter_map (mention_of q) ns))
        ≡ ((b && s n.number) || list_any (λ n. touches n.change q && s n.number) ns)
    one true rest = ap (λ b. s n.number || b) rest
    one false rest = rest

-- ---- the change with a number

module _ (t : Numbered → Bool) (m : ℕ) where
  none_below : (k : ℕ) (ns : List Numbered) → CountsFrom k ns → m < k → list_any (λ n. (n.number == m) && t n) ns ≡ false
  none_below k [] counts below = refl
  none_below k (n ∷ ns) counts below =
      rw (ne_eqb n.number m (λ same. omega (arith, counts.0))) (none_below (k + 1) ns counts.1 (omega arith))

  or_none : (b r : Bool) → r ≡ false → (b || r) ≡ b
  or_none true r e = refl
  or_none false r e = e

  -- of numbered changes one at most has the number
  at_number : (k : ℕ) (ns : List Numbered) → CountsFrom k ns → list_any (λ n. (n.number == m) && t n) ns ≡ option_map_or t (find (λ n. n.number == m) ns) false
  at_number k [] counts = refl
  at_number k (n ∷ ns) counts = elim (cases_eq n.number m) [
    | inl same ↦ rw (eq-eqb n.number m same) (or_none (t n) _ (none_below (k + 1) ns counts.1 (omega (arith, counts.0))))
    | inr other ↦ rw (ne_eqb n.number m other) (at_number (k + 1) ns counts.1)
  ]

-- ---- the mentions

-- what is asked of a number is asked of m
test_at : (g : ℕ → Bool) (n m k : ℕ) (t : Bool) → (t && (nat_lt n k && ((k == m) && g k))) ≡ ((k == m) && (t && (nat_lt n m && g m)))
test_at g n m k t = elim (cases_eq k m) [
  | inl same ↦ rw (eq-eqb k m same) (ap (λ x. t && (nat_lt n x && g x)) same)
  | inr other ↦ rw (ne_eqb k m other) (out t (nat_lt n k))
]
  where
    out : (a b : Bool) → (a && (b && false)) ≡ false
    out true true = refl
    out true false = refl
    out false b = refl

kept_one : (q : Facet) (o : Option Numbered) (kept above : Bool)
    → option_map_or (λ n. touches n.change q && (above && is_some (cond kept (option_map (λ c. c.change) o) None))) o false
    ≡ (above && option_map_or (λ c. touches c q) (cond kept (option_map (λ c. c.change) o) None) false)
kept_one q None true true = refl
kept_one q None true false = refl
kept_one q None false true = refl
kept_one q None false false = refl
kept_one q (Some n) true true = and_one (touches n.change q)
  where
    and_one : (b : Bool) → (b && true) ≡ b
    and_one true = refl
    and_one false = refl
kept_one q (Some n) true false = and_none (touches n.change q)
  where
    and_none : (b : Bool) → (b && false) ≡ false
    and_none true = refl
    and_none false = refl
kept_one q (Some n) false true = and_none (touches n.change q)
  where
    and_none : (b : Bool) → (b && false) ≡ false
    and_none true = refl
    and_none false = refl
kept_one q (Some n) false false = and_none (touches n.change q)
  where
    and_none : (b : Bool) → (b && false) ≡ false
    and_none true = refl
    and_none false = refl

-- of the mentions after n, that of m is one whose change is in force just where m is a later change that touches the facet
pub mentioned : (touch : Touch) (j : Journal) (q : Facet) (n m : ℕ) → AreNoted touch j → IsNumbered j
    → list_any (λ x. (x.number == m) && in_force j x.number) (filter (λ x. nat_lt n x.number) (mentions touch q)) ≡ touches_after j n q m
mentioned touch j q n m noted numbered =
    any-filter (λ x. (x.number == m) && in_force j x.number) (λ x. nat_lt n x.number) (mentions touch q)
    ∙ ap (list_any (λ x. nat_lt n x.number && ((x.number == m) && in_force j x.number))) (noted q)
    ∙ any_mention (λ k. nat_lt n k && ((k == m) && in_force j k)) q (committed j)
    ∙ any_agree _ (λ c. (c.number == m) && (touches c.change q && (nat_lt n m && in_force j m))) (λ c. test_at (in_force j) n m c.number (touches c.change q)) (committed j)
    ∙ at_number (λ c. touches c.change q && (nat_lt n m && in_force j m)) m (j.base + 1) (committed j) numbered.commits
    ∙ kept_one q (find (λ c. c.number == m) (committed j)) (is_kept j m) (nat_lt n m)
