-- An entry that tells nothing any more is erased.
use Rattle.std.proofs.Common.{◌≡◌, ℕ, ◌<◌, ◌≤◌, ◌==◌, Bool, true, false, not, ◌&&◌, cond, inl, inr, List, [], ◌∷◌, Some, None, refl, sym, ap, ◌∙◌, arith, subst}
use Rattle.std.specs.List.{AllByRecursion, filter, find, fold}
use Rattle.std.proofs.lemmas.Bool.{cases_eq, eq-eqb}
use Rattle.std.proofs.lemmas.Bool.Decides.{nat_tests}
use Rattle.keep_journal.specs.History.{final_after, final_by, AscendFrom}
use Rattle.keep_journal.specs.declared.event.Entry as the_entry
use Rattle.keep_journal.specs.declared.event.EventKind.{EventKind}
use Rattle.keep_journal.specs.declared.event.EventKind.TheVariants.{Commit, Undo, Redo, Empty}
use Rattle.keep_journal.specs.Lasting.{Follow, entry_at, lasts, lasts_by, lasting_among}
use Rattle.keep_journal.proofs.Filters.{filter-filter, find-filter, find_agree}
use Rattle.keep_entries.specs.Entry.{IsEntry}
use Rattle.keep_shelf.specs.declared.key.Key.TheVariants.{Entry}
use Rattle.keep_moves.specs.Move.{Stand, moved}
use Rattle.keep_moves.specs.declared.moves.Move.TheVariants.{Erase}
use Rattle.keep_moves.proofs.Entries.{entry_other, entry_same}
use Rattle.keep_moves.proofs.Erased.{all_filtered, all_weaker}
use Rattle.keep_reading.specs.Lists.{IsListed, Lists}

module _ (k : ℕ) where
  abbrev other : the_entry.Entry → Bool
  other e = not (e.at == k)

  -- the entries without that of number k
  abbrev pub without : List the_entry.Entry → List the_entry.Entry
  without es = filter (λ e. not (e.at == k)) es

  -- ---- the others

  pub ascend_without : (m a : ℕ) (es : List the_entry.Entry) → AscendFrom m es → a ≤ m → AscendFrom a (without es)
  ascend_without m a [] h low = tt
  ascend_without m a (e ∷ es) h low = by (other e) (λ b c. ascend_without e.at b es h.1 c)
    where
      by : (t : Bool) → ((b : ℕ) → b ≤ e.at → AscendFrom b (without es)) → AscendFrom a (cond t (e ∷ without es) (without es))
      by true rest = (omega (arith, h.0), rest e.at (omega arith))
      by false rest = rest a (omega (arith, h.0))

  follow_up : (top a n : ℕ) (kind : EventKind) → a ≤ top → top < n → (a ≤ final_by top n kind) × (final_by a n kind ≤ final_by top n kind)
  follow_up top a n (Commit c) low above = (low, low)
  follow_up top a n Undo low above = (low, low)
  follow_up top a n Redo low above = (low, low)
  follow_up top a n (Empty marks) low above = (omega arith, omega arith)

  pub follow_without : (top a : ℕ) (es : List the_entry.Entry) → Follow top es → a ≤ top → Follow a (without es)
  follow_without top a [] follow low = tt
  follow_without top a (e ∷ es) follow low = by (other e) (λ b c. follow_without (final_after top e.event) b es follow.1 c)
    where
      up : (a ≤ final_after top e.event) × (final_after a e.event ≤ final_after top e.event)
      up = follow_up top a e.event.number e.event.kind low follow.0

      by : (t : Bool) → ((b : ℕ) → b ≤ final_after top e.event → Follow b (without es)) → Follow a (cond t (e ∷ without es) (without es))
      by true rest = (omega (arith, follow.0), rest (final_after a e.event) up.1)
      by false rest = rest a up.0

  pub entry_gone : (es : List the_entry.Entry) → entry_at (without es) k ≡ None
  entry_gone es = find-filter (λ (e : the_entry.Entry). e.at == k) other es ∙ never es
    where
      never : (xs : List the_entry.Entry) → find (λ e. not (e.at == k) && (e.at == k)) xs ≡ None
      never [] = refl
      never (x ∷ xs) = by (x.at == k) (never xs)
        where
          by : (b : Bool) → find (λ (e : the_entry.Entry). not (e.at == k) && (e.at == k)) xs ≡ None → cond (not b && b) (Some x) (find (λ e. not (e.at == k) && (e.at == k)) xs) ≡ None
          by true rest = rest
          by false rest = rest

  pub entry_left : (q : ℕ) → (q ≡ k → ⊥) → (es : List the_entry.Entry) → entry_at (without es) q ≡ entry_at es q
  entry_left q apart es =
      find-filter (λ (e : the_entry.Entry). e.at == q) other es
      ∙ find_agree (λ (e : the_entry.Entry). not (e.at == k) && (e.at == q)) (λ e. e.at == q) (λ e. same e.at) es
    where
      same : (i : ℕ) → (not (i == k) && (i == q)) ≡ (i == q)
      same i = elim (cases_eq i q) [
        | inl here ↦ grind (arith, nat_tests)
        | inr elsewhere ↦ grind (arith, nat_tests)
      ]

  -- what stands there lists them, once the entry is erased
  pub lists_without : (stand : Stand) (es : List the_entry.Entry) → Lists stand es → Lists (moved (Erase (Entry k)) stand) (without es)
  lists_without stand es lists = record {
    each = all_weaker (λ e. IsEntry e × (other e ≡ true)) IsEntry (λ e both. both.0) (without es) (all_filtered IsEntry other es lists.each);
    ascending = ascend_without 0 0 es lists.ascending (omega arith);
    listed = λ q. elim (cases_eq q k) [
      | inl same ↦
          subst (λ o. IsListed o (entry_at (without es) q)) (sym (ap (λ b. cond b None (stand (Entry q))) (entry_same q k same)))
          (subst (λ o. IsListed None o) (sym (ap (entry_at (without es)) same ∙ entry_gone es)) tt)
      | inr apart ↦
          subst (λ o. IsListed o (entry_at (without es) q)) (sym (ap (λ b. cond b None (stand (Entry q))) (entry_other q k apart)))
          (subst (λ o. IsListed (stand (Entry q)) o) (sym (entry_left q apart es)) (lists.listed q))
    ];
  }

  -- ---- where it tells nothing, they tell the same

  module _ (f : ℕ) where
    -- the entry of number k tells nothing where changes up to f are final
    abbrev Idle : List the_entry.Entry → Type 0
    Idle es = AllByRecursion (λ e. (e.at == k) ≡ true → lasts f e.event ≡ false) es

    pub idle : (es : List the_entry.Entry) → entry_at (lasting_among f es) k ≡ None → Idle es
    idle [] none = tt
    idle (e ∷ es) none = by (lasts f e.event) refl (e.at == k) refl none (idle es)
      where
        by : (a : Bool) → lasts f e.event ≡ a → (b : Bool) → (e.at == k) ≡ b → entry_at (cond a (e ∷ lasting_among f es) (lasting_among f es)) k ≡ None
            → (entry_at (lasting_among f es) k ≡ None → Idle es) → ((e.at == k) ≡ true → lasts f e.event ≡ false) × Idle es
        by true told true here found rest = cc (rw here at found)
        by true told false elsewhere found rest = ((λ here. cc (here, elsewhere)), rest (rw elsewhere at found))
        by false silent b is found rest = ((λ here. silent), rest found)

    pub told_without : (es : List the_entry.Entry) → Idle es → lasting_among f (without es) ≡ lasting_among f es
    told_without es idle = filter-filter (λ (e : the_entry.Entry). lasts f e.event) other es ∙ same es idle
      where
        one : (e : the_entry.Entry) (b : Bool) → (e.at == k) ≡ b → ((e.at == k) ≡ true → lasts f e.event ≡ false) → (not b && lasts f e.event) ≡ lasts f e.event
        one e true here silent = sym (silent here)
        one e false elsewhere silent = refl

        same : (xs : List the_entry.Entry) → Idle xs → filter (λ e. not (e.at == k) && lasts f e.event) xs ≡ lasting_among f xs
        same [] all = refl
        same (x ∷ xs) all =
            ap (λ b. cond b (x ∷ filter (λ e. not (e.at == k) && lasts f e.event) xs) (filter (λ e. not (e.at == k) && lasts f e.event) xs)) (one x (x.at == k) refl all.0)
            ∙ ap (λ ys. cond (lasts f x.event) (x ∷ ys) ys) (same xs all.1)

    pub final_without : (es : List the_entry.Entry) (top a : ℕ) → Idle es → fold (λ before e. final_after before e.event) top es ≡ f → (top ≡ f → a ≡ f)
        → fold (λ before e. final_after before e.event) a (without es) ≡ f
    final_without [] top a idle final same = same final
    final_without (e ∷ es) top a idle final same =
        by (e.at == k) refl (λ b so. final_without es (final_after top e.event) b idle.1 final so)
      where
        kept : (n : ℕ) (kind : EventKind) → final_by top n kind ≡ f → final_by a n kind ≡ f
        kept n (Commit c) is = same is
        kept n Undo is = same is
        kept n Redo is = same is
        kept n (Empty marks) is = is

        gone : (n : ℕ) (kind : EventKind) → lasts_by f n kind ≡ false → final_by top n kind ≡ f → a ≡ f
        gone n (Commit c) silent is = same is
        gone n Undo silent is = same is
        gone n Redo silent is = same is
        gone n (Empty marks) silent is = cc (eq-eqb n f is, silent)

        by : (b : Bool) → (e.at == k) ≡ b
            → ((c : ℕ) → (final_after top e.event ≡ f → c ≡ f) → fold (λ before x. final_after before x.event) c (without es) ≡ f)
            → fold (λ before x. final_after before x.event) a (cond (not b) (e ∷ without es) (without es)) ≡ f
        by true here rest = rest a (gone e.event.number e.event.kind (idle.0 here))
        by false elsewhere rest = rest (final_after a e.event) (kept e.event.number e.event.kind)
