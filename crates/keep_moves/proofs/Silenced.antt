-- The entries that an emptying erases: none stands twice, and what is left are those that still tell something.
use Rattle.std.proofs.Common.{◌≡◌, ℕ, ◌<◌, ◌≤◌, ◌==◌, Bool, true, false, cond, not, ◌||◌, ◌&&◌, inl, inr, List, [], ◌∷◌, Option, Some, None, refl, sym, ap, ap₂, ◌∙◌, arith}
use Rattle.std.specs.List.{AllByRecursion, filter, fold}
use Rattle.std.specs.Option.{option_map}
use Rattle.std.proofs.lemmas.Bool.{cases_eq, eq-eqb, ne_eqb}
use Rattle.keep_change.proofs.Records.{or_neither}
use Rattle.keep_journal.specs.History.{AscendFrom}
use Rattle.keep_journal.specs.declared.event.Entry as the_entry
use Rattle.keep_journal.specs.Lasting.{entry_at, lasts, lasting_among}
use Rattle.keep_journal.proofs.Filters.{either}
use Rattle.keep_journal.proofs.Within.{IsWithin, told_before}
use Rattle.keep_shelf.specs.declared.key.Key.{Key}
use Rattle.keep_shelf.specs.declared.key.Key.TheVariants.{Entry}
use Rattle.keep_entries.specs.Spelling.{entry_text}
use Rattle.keep_moves.specs.Lists.{entry_keys, is_silenced}
use Rattle.keep_moves.specs.Move.{key_eq}
use Rattle.keep_moves.proofs.Entries.{entry_other, entry_same, last_from}
use Rattle.keep_moves.proofs.Erased.{Distinct, is_in}

-- a key that is no entry's
pub in_no_entries : (q : Key) → ((i : ℕ) → key_eq q (Entry i) ≡ false) → (es : List the_entry.Entry) → is_in q (entry_keys es) ≡ false
in_no_entries q none [] = refl
in_no_entries q none (e ∷ es) = or_neither (key_eq q (Entry e.at)) (is_in q (entry_keys es)) (none e.at) (in_no_entries q none es)

module _ (p : the_entry.Entry → Bool) where
  -- a number below all
  in_below : (m i : ℕ) (es : List the_entry.Entry) → AscendFrom m es → i ≤ m → is_in (Entry i) (entry_keys (filter p es)) ≡ false
  in_below m i [] h below = refl
  in_below m i (e ∷ es) h below = by (p e) (in_below e.at i es h.1 (omega (arith, h.0)))
    where
      by : (b : Bool) → is_in (Entry i) (entry_keys (filter p es)) ≡ false → is_in (Entry i) (entry_keys (cond b (e ∷ filter p es) (filter p es))) ≡ false
      by true rest = or_neither (key_eq (Entry i) (Entry e.at)) (is_in (Entry i) (entry_keys (filter p es))) (entry_other i e.at (λ same. omega (arith, h.0))) rest
      by false rest = rest

  -- and one past the last
  pub in_past : (m i : ℕ) (es : List the_entry.Entry) → AscendFrom m es → fold (λ before x. x.at) m es < i → is_in (Entry i) (entry_keys (filter p es)) ≡ false
  in_past m i [] h above = refl
  in_past m i (e ∷ es) h above = by (p e) (in_past e.at i es h.1 above)
    where
      by : (b : Bool) → is_in (Entry i) (entry_keys (filter p es)) ≡ false → is_in (Entry i) (entry_keys (cond b (e ∷ filter p es) (filter p es))) ≡ false
      by true rest = or_neither (key_eq (Entry i) (Entry e.at)) (is_in (Entry i) (entry_keys (filter p es))) (entry_other i e.at (λ same. omega (arith, last_from e.at es h.1))) rest
      by false rest = rest

  pub distinct_entries : (m : ℕ) (es : List the_entry.Entry) → AscendFrom m es → Distinct (entry_keys (filter p es))
  distinct_entries m [] h = tt
  distinct_entries m (e ∷ es) h = by (p e) (distinct_entries e.at es h.1)
    where
      by : (b : Bool) → Distinct (entry_keys (filter p es)) → Distinct (entry_keys (cond b (e ∷ filter p es) (filter p es)))
      by true rest = (in_below e.at e.at es h.1 (omega arith), rest)
      by false rest = rest

-- none of those that pass a test has a number below all
none_below : (m i : ℕ) (p : the_entry.Entry → Bool) (es : List the_entry.Entry) → AscendFrom m es → i ≤ m → entry_at (filter p es) i ≡ None
none_below m i p [] h below = refl
none_below m i p (e ∷ es) h below =
    let other : (e.at == i) ≡ false = ne_eqb e.at i (λ same. omega (arith, h.0)) in
    let rest = none_below e.at i p es h.1 (omega (arith, h.0)) in
    either (λ xs. entry_at xs i ≡ None) (p e) (e ∷ filter p es) (filter p es) (rw other rest) rest

module _ (f n : ℕ) (below : f < n) where
  abbrev is_out : the_entry.Entry → Bool
  is_out e = is_silenced f n e.event

  abbrev text_at : List the_entry.Entry → ℕ → Option (List ℕ)
  text_at es i = option_map (λ x. entry_text x.event) (entry_at es i)

  -- one that has another number is passed by
  passed : (e : the_entry.Entry) (es : List the_entry.Entry) (i : ℕ) (b : Bool) → (e.at == i) ≡ false → text_at (cond b (e ∷ es) es) i ≡ text_at es i
  passed e es i true other = ap (λ t. option_map (λ (x : the_entry.Entry). entry_text x.event) (cond t (Some e) (entry_at es i))) other
  passed e es i false other = refl

  in_passed : (e : the_entry.Entry) (es : List the_entry.Entry) (i : ℕ) (b : Bool) → key_eq (Entry i) (Entry e.at) ≡ false → is_in (Entry i) (entry_keys (cond b (e ∷ es) es)) ≡ is_in (Entry i) (entry_keys es)
  in_passed e es i true other = ap (λ t. t || is_in (Entry i) (entry_keys es)) other
  in_passed e es i false other = refl

  -- what is left under a number
  pub left_standing : (m i : ℕ) (es : List the_entry.Entry) → AscendFrom m es → AllByRecursion (IsWithin f) es
      → cond (is_in (Entry i) (entry_keys (filter is_out es))) None (text_at (lasting_among f es) i) ≡ text_at (lasting_among n es) i
  left_standing m i [] h within = refl
  left_standing m i (e ∷ es) h within = elim (cases_eq e.at i) [
    | inl same ↦ own same (lasts f e.event) refl (lasts n e.event) refl
    | inr other ↦
        let apart : (e.at == i) ≡ false = ne_eqb e.at i other in
        ap₂ (λ t o. cond t None o) (in_passed e (filter is_out es) i (is_out e) (entry_other i e.at (λ s. other (sym s)))) (passed e (lasting_among f es) i (lasts f e.event) apart)
        ∙ left_standing e.at i es h.1 within.1
        ∙ sym (passed e (lasting_among n es) i (lasts n e.event) apart)
  ]
    where
      none : (g : ℕ) → e.at ≡ i → entry_at (lasting_among g es) i ≡ None
      none g same = none_below e.at i (λ x. lasts g x.event) es h.1 (omega arith)

      out : e.at ≡ i → is_in (Entry i) (entry_keys (filter is_out es)) ≡ false
      out same = in_below is_out e.at i es h.1 (omega arith)

      own : e.at ≡ i → (a : Bool) → lasts f e.event ≡ a → (b : Bool) → lasts n e.event ≡ b
          → cond (is_in (Entry i) (entry_keys (cond (a && not b) (e ∷ filter is_out es) (filter is_out es)))) None (text_at (cond a (e ∷ lasting_among f es) (lasting_among f es)) i)
          ≡ text_at (cond b (e ∷ lasting_among n es) (lasting_among n es)) i
      own same true told true still = rw (out same, eq-eqb e.at i same) refl
      own same true told false silent = rw (entry_same i e.at (sym same), none n same) refl
      own same false told true still = cc (sym told ∙ told_before f n below e within.0 still)
      own same false told false silent = rw (out same, none f same, none n same) refl
