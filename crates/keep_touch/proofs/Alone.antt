-- A change that isn't followed is the last of each list that mentions it.
use Rattle.std.proofs.Common.{◌≡◌, ℕ, zero, suc, ◌+◌, ◌-◌, ◌<◌, ◌≤◌, ◌==◌, nat_lt, Bool, true, false, cond, inl, inr, List, [], ◌∷◌, length, get_or, Some, None, refl, sym, ap, subst, ◌∙◌, arith}
use Rattle.std.proofs.lemmas.Bool.{cases_lt, eqb-true, le-ltb}
use Rattle.std.proofs.lemmas.List.{get_or-take, length-take}
use Rattle.std.proofs.lemmas.Option.{same_Some}
use Rattle.std.specs.List.{cons_option, filter, filter_map, find}
use Rattle.std.specs.List.Sorted.{IsNonDecreasingBy}
use Rattle.std.specs.Option.{option_map}
use Rattle.keep_repo.specs.declared.facet.Facet.{Facet}
use Rattle.keep_change.specs.Fold.{Numbered}
use Rattle.keep_change.specs.Touch.{touches, writes}
use Rattle.keep_change.specs.declared.change.Change.{Change}
use Rattle.keep_journal.specs.History.{committed, last_change, IsNumbered}
use Rattle.keep_journal.specs.Journal.{Journal}
use Rattle.keep_journal.proofs.Kept.{later_none}
use Rattle.keep_touch.specs.Finding.{first_toucher, StandsAlone}
use Rattle.keep_touch.specs.Followed.{without_last}
use Rattle.keep_touch.specs.Mentions.{is_followed, mention_of, mentions, AreNoted}
use Rattle.keep_touch.specs.declared.mention.Mention.{Mention}
use Rattle.keep_touch.specs.declared.touch.Touch.{Touch}
use Rattle.keep_touch.proofs.Followed.{AllPass}
use Rattle.keep_touch.proofs.Rising.{noted_in_order}
use Rattle.keep_touch.proofs.Searching.{toucher_found}

-- change n is mentioned
record IsMentioned (n : ℕ) (ms : List Mention) : Type 0 where
  at : ℕ
  within : at < length ms
  is : (d : Mention) → (get_or ms at d).number ≡ n

-- a change is mentioned at what it touches
is_mentioned : (q : Facet) (n : ℕ) (c : Change) (ns : List Numbered) → option_map (λ m. m.change) (find (λ m. m.number == n) ns) ≡ Some c → touches c q ≡ true
    → IsMentioned n (filter_map (mention_of q) ns)
is_mentioned q n c [] found touched = cc found
is_mentioned q n c (m ∷ ms) found touched = one (m.number == n) (touches m.change q) refl refl (λ is. is_mentioned q n c ms is touched) found
  where
    one : (a b : Bool) → (m.number == n) ≡ a → touches m.change q ≡ b
        → (option_map (λ k. k.change) (find (λ k. k.number == n) ms) ≡ Some c → IsMentioned n (filter_map (mention_of q) ms))
        → option_map (λ k. k.change) (cond a (Some m) (find (λ k. k.number == n) ms)) ≡ Some c
        → IsMentioned n (cons_option (cond b (Some (record { number = m.number; writes = writes m.change q })) None) (filter_map (mention_of q) ms))
    one true true same touch rest is = record { at = 0; within = omega arith; is = λ d. eqb-true m.number n same }
    one true false same touch rest is = cc (touch, ap (λ d. touches d q) (same_Some m.change c is), touched)
    one false true same touch rest is =
        let there = rest is in record { at = suc there.at; within = omega (arith, there.within); is = there.is }
    one false false same touch rest is = rest is

none_left : {X : Type 0} (p : X → Bool) (xs : List X) → ((k : ℕ) (d : X) → k < length xs → p (get_or xs k d) ≡ false) → filter p xs ≡ []
none_left p [] all = refl
none_left p (x ∷ xs) all =
    let fails : p x ≡ false = all zero x (omega arith) in rw fails (none_left p xs (λ k d within. all (suc k) d (omega arith)))

-- where all but the last pass, one that doesn't is the last
none_after : (f : ℕ → Bool) (n : ℕ) (ms : List Mention) → IsNonDecreasingBy (λ m. m.number) ms → AllPass f (without_last 1 ms) → f n ≡ false → IsMentioned n ms
    → filter (λ m. nat_lt n m.number) ms ≡ []
none_after f n ms ordered passed fails there = none_left (λ m. nat_lt n m.number) ms (λ k d within.
    let greatest = ordered k there.at d (omega (arith, last d, within)) there.within in
    le-ltb n (get_or ms k d).number (omega (arith, greatest, there.is d)))
  where
    last : Mention → length ms ≤ there.at + 1
    last d = elim (cases_lt (there.at + 1) (length ms)) [
      | inl before ↦
          let passes : f n ≡ true =
          ap f (sym (there.is d))
          ∙ ap (λ (m : Mention). f m.number) (sym (get_or-take (length ms - 1) ms there.at d (omega arith)))
          ∙ passed there.at d (omega (arith, length-take (length ms - 1) ms)) in
          cc (passes, fails)
      | inr after ↦ after
    ]

pub unfollowed_alone : (touch : Touch) (j : Journal) (n : ℕ) → AreNoted touch j → IsNumbered j → is_followed touch n ≡ false → StandsAlone j n
unfolding mentions
unfollowed_alone touch j n noted numbered unfollowed c q is_c touched =
    let there = subst (IsMentioned n) (sym (noted q)) (is_mentioned q n c (committed j) is_c touched) in
    let none = none_after (is_followed touch) n (mentions touch q) (noted_in_order touch j q noted numbered) (touch.complete q) unfollowed there in
    sym (toucher_found touch j q n (mentions touch q) [] None refl (sym none) refl noted numbered)

-- and none comes after the last change
pub last_alone : (j : Journal) (n : ℕ) → IsNumbered j → last_change j ≤ n → StandsAlone j n
last_alone j n numbered end c q is_c touched = ap (first_toucher q) (later_none j n numbered end)
