-- One more entry stands on a shelf.
use Rattle.std.proofs.Common.{◌≡◌, ℕ, ◌<◌, ◌==◌, false, cond, inl, inr, List, [], ◌∷◌, ◌++◌, Option, Some, None, refl, sym, ap, ◌∙◌, arith, subst}
use Rattle.std.specs.List.{fold}
use Rattle.std.specs.Option.{option_or}
use Rattle.std.proofs.lemmas.Bool.{cases_eq, eq-eqb, ne_eqb}
use Rattle.std.proofs.lemmas.Grind.{fold-append}
use Rattle.std.proofs.lemmas.List.Folds.{find-append}
use Rattle.keep_journal.specs.History.{AscendFrom}
use Rattle.keep_journal.specs.Journal.{Journal, posted}
use Rattle.keep_journal.specs.declared.event.Entry as the_entry
use Rattle.keep_journal.specs.declared.event.Event.{Event}
use Rattle.keep_journal.specs.Lasting.{entry_at}
use Rattle.keep_entries.specs.Entry.{IsEntry, Spells}
use Rattle.keep_entries.specs.Spelling.{entry_text}
use Rattle.keep_shelf.specs.declared.key.Key.TheVariants.{Entry}
use Rattle.keep_moves.specs.Course.{with_entry}
use Rattle.keep_moves.specs.Move.{Stand}
use Rattle.keep_moves.proofs.Entries.{entry_other, entry_same, last_from}
use Rattle.keep_moves.proofs.Erased.{all_append}
use Rattle.keep_reading.specs.Lists.{IsListed, Lists}
use Rattle.keep_reading.specs.Settled.{last_event}

-- no entry has a number past the last
pub none_past : (m k : ℕ) (es : List the_entry.Entry) → AscendFrom m es → fold (λ before e. e.at) m es < k → entry_at es k ≡ None
none_past m k [] h above = refl
none_past m k (e ∷ es) h above =
    let other : (e.at == k) ≡ false = ne_eqb e.at k (λ same. omega (arith, last_from e.at es h.1)) in
    rw other (none_past e.at k es h.1 above)

or_none : (o : Option the_entry.Entry) → option_or o None ≡ o
or_none None = refl
or_none (Some x) = refl

pub last_event-push : (j : Journal) (k : ℕ) (e : Event) → last_event (posted j k e) ≡ Some e
last_event-push j k e = fold-append (λ (before : Option Event) (x : the_entry.Entry). Some x.event) None j.entries (record { at = k; event = e } ∷ [])

module _ (k : ℕ) (e : Event) where
  abbrev pub the_new : the_entry.Entry
  the_new = record { at = k; event = e }

  ascend_push : (m : ℕ) (es : List the_entry.Entry) → AscendFrom m es → fold (λ before x. x.at) m es < k → AscendFrom m (es ++ the_new ∷ [])
  ascend_push m [] h above = (above, tt)
  ascend_push m (x ∷ es) h above = (h.0, ascend_push x.at es h.1 above)

  -- it stands under its number
  entry_new : (m : ℕ) (es : List the_entry.Entry) → AscendFrom m es → fold (λ before x. x.at) m es < k → entry_at (es ++ the_new ∷ []) k ≡ Some the_new
  entry_new m es h above =
      find-append (λ (x : the_entry.Entry). x.at == k) es (the_new ∷ [])
      ∙ ap (λ o. option_or o (cond (k == k) (Some the_new) None)) (none_past m k es h above)
      ∙ ap (λ b. cond b (Some the_new) None) (eq-eqb k k refl)

  -- and the others under theirs
  pub entry_old : (es : List the_entry.Entry) (q : ℕ) → (q ≡ k → ⊥) → entry_at (es ++ the_new ∷ []) q ≡ entry_at es q
  entry_old es q apart =
      find-append (λ (x : the_entry.Entry). x.at == q) es (the_new ∷ [])
      ∙ ap (λ b. option_or (entry_at es q) (cond b (Some the_new) None)) (ne_eqb k q (λ same. apart (sym same)))
      ∙ or_none (entry_at es q)

  pub lists_push : (stand : Stand) (es : List the_entry.Entry) → Lists stand es → fold (λ before x. x.at) 0 es < k → IsEntry the_new → Spells (entry_text e) e
      → Lists (with_entry k e stand) (es ++ the_new ∷ [])
  lists_push stand es lists above is spells = record {
    each = all_append IsEntry es (the_new ∷ []) lists.each (is, tt);
    ascending = ascend_push 0 es lists.ascending above;
    listed = λ q. elim (cases_eq q k) [
      | inl same ↦
          subst (λ o. IsListed o (entry_at (es ++ the_new ∷ []) q)) (sym (ap (λ b. cond b (Some (entry_text e)) (stand (Entry q))) (entry_same q k same)))
          (subst (λ o. IsListed (Some (entry_text e)) o) (sym (ap (entry_at (es ++ the_new ∷ [])) same ∙ entry_new 0 es lists.ascending above)) spells)
      | inr apart ↦
          subst (λ o. IsListed o (entry_at (es ++ the_new ∷ []) q)) (sym (ap (λ b. cond b (Some (entry_text e)) (stand (Entry q))) (entry_other q k apart)))
          (subst (λ o. IsListed (stand (Entry q)) o) (sym (entry_old es q apart)) (lists.listed q))
    ];
  }
