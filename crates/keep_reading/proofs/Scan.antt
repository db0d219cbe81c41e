-- Whether an event fits what the entries before it tell.
use Rattle.std.proofs.Common.{◌≡◌, ℕ, ◌+◌, ◌<◌, ◌≤◌, Bool, true, false, cond, inl, inr, List, [], ◌∷◌, ◌++◌, Option, None, refl, ap, ◌∙◌, arith}
use Rattle.std.specs.List.{fold}
use Rattle.std.proofs.lemmas.Bool.{and_from, and_parts, cases_eq, eq-eqb, eqb-true, le-leb, leb-true, lt-ltb, ltb-true, ne_eqb, not-true, not_from_false}
use Rattle.keep_change.specs.declared.change.PackMark.{PackMark}
use Rattle.keep_journal.specs.History.{final_after, final_number, last_change, last_marks, marks_after, marks_by, Fits, FitsBy, IsNumbered}
use Rattle.keep_journal.specs.Journal.{Journal}
use Rattle.keep_journal.specs.declared.event.Entry.{Entry}
use Rattle.keep_journal.specs.declared.event.Event.{Event}
use Rattle.keep_journal.specs.declared.event.EventKind.{EventKind}
use Rattle.keep_journal.specs.declared.event.EventKind.TheVariants.{Commit, Undo, Redo, Empty}
use Rattle.keep_journal.specs.Lasting.{Follow, lasts, lasts_by, lasting_among}
use Rattle.keep_journal.proofs.Within.{follow_rises}
use Rattle.keep_reading.specs.Bad.{fits_by}

-- ---- entries that follow their emptyings

pub follow_push : (top : ℕ) (es : List Entry) (e : Entry) → Follow top es → fold (λ before x. final_after before x.event) top es < e.event.number → Follow top (es ++ e ∷ [])
follow_push top [] e follow above = (above, tt)
follow_push top (x ∷ es) e follow above = (follow.0, follow_push (final_after top x.event) es e follow.1 above)

-- the marks of the last of these emptyings, else those that are known
abbrev marks : Option (List PackMark) → List Entry → Option (List PackMark)
marks o es = fold (λ before e. marks_after before e.event) o es

-- before changes up to f become final no emptying is told
pub none_told : (f top : ℕ) (es : List Entry) (o : Option (List PackMark)) → Follow top es → fold (λ before e. final_after before e.event) top es < f
    → marks o (lasting_among f es) ≡ o
none_told f top [] o follow low = refl
none_told f top (e ∷ es) o follow low =
    by e.event.number e.event.kind refl (follow_rises (final_after top e.event) es follow.1) (none_told f (final_after top e.event) es o follow.1 low)
  where
    same : (b : Bool) (k : EventKind) → marks_by o k ≡ o → marks o (lasting_among f es) ≡ o → cond b (marks (marks_by o k) (lasting_among f es)) (marks o (lasting_among f es)) ≡ o
    same true k is rest = ap (λ p. marks p (lasting_among f es)) is ∙ rest
    same false k is rest = rest

    pushed : (b : Bool) → marks o (cond b (e ∷ lasting_among f es) (lasting_among f es)) ≡ cond b (marks (marks_after o e.event) (lasting_among f es)) (marks o (lasting_among f es))
    pushed true = refl
    pushed false = refl

    by : (n : ℕ) (kind : EventKind) → ◌≡◌ {A = Event} e.event (record { number = n; kind = kind })
        → final_after top e.event ≤ fold (λ before (x : Entry). final_after before x.event) (final_after top e.event) es
        → marks o (lasting_among f es) ≡ o → marks o (cond (lasts f e.event) (e ∷ lasting_among f es) (lasting_among f es)) ≡ o
    by n (Commit c) is up rest = pushed (lasts f e.event) ∙ ap (λ (x : Event). cond (lasts f e.event) (marks (marks_after o x) (lasting_among f es)) (marks o (lasting_among f es))) is ∙ same (lasts f e.event) (Commit c) refl rest
    by n Undo is up rest = pushed (lasts f e.event) ∙ ap (λ (x : Event). cond (lasts f e.event) (marks (marks_after o x) (lasting_among f es)) (marks o (lasting_among f es))) is ∙ same (lasts f e.event) Undo refl rest
    by n Redo is up rest = pushed (lasts f e.event) ∙ ap (λ (x : Event). cond (lasts f e.event) (marks (marks_after o x) (lasting_among f es)) (marks o (lasting_among f es))) is ∙ same (lasts f e.event) Redo refl rest
    by n (Empty ms) is up rest = elim (cases_eq n f) [
      | inl same_number ↦
          let final : final_after top e.event ≡ n = ap (final_after top) is in
          absurd (omega (arith, up, low, final))
      | inr other ↦
          let silent : lasts f e.event ≡ false = ap (lasts f) is ∙ ne_eqb n f other in
          ap (λ b. marks o (cond b (e ∷ lasting_among f es) (lasting_among f es))) silent ∙ rest
    ]

-- ---- an event after a journal

-- one that is told, of a change that no emptying so far made final, and passes the test fits the journal
pub fits_from : (f top : ℕ) (j : Journal) (e : Event) → IsNumbered j → final_number j ≡ f → (top < f → last_marks j ≡ None)
    → lasts f e ≡ true → top < e.number → fits_by j e.number e.kind ≡ true → Fits j e
fits_from f top j e numbered final first told above fits = by e.number e.kind told above fits
  where
    by : (n : ℕ) (kind : EventKind) → lasts_by f n kind ≡ true → top < n → fits_by j n kind ≡ true → FitsBy j n kind
    by n (Commit c) t up fit = eqb-true n (last_change j + 1) fit
    by n Undo t up fit =
        let one = and_parts _ _ fit in
        let rest = and_parts _ _ one.1 in
        (ltb-true (final_number j) n one.0, leb-true n (last_change j) rest.0, rest.1)
    by n Redo t up fit =
        let one = and_parts _ _ fit in
        let rest = and_parts _ _ one.1 in
        (ltb-true (final_number j) n one.0, leb-true n (last_change j) rest.0, not-true _ rest.1)
    by n (Empty marks) t up fit =
        let number : n ≡ f = eqb-true n f t in
        let last = numbered.last_final in
        (omega (arith, up), omega (arith, number, final), omega (arith, number, final, last), λ same. first (omega (arith, up, number)))

-- and one that fits passes it
pub fits_to : (j : Journal) (e : Event) → Fits j e → fits_by j e.number e.kind ≡ true
fits_to j e fits = by e.number e.kind fits
  where
    by : (n : ℕ) (kind : EventKind) → FitsBy j n kind → fits_by j n kind ≡ true
    by n (Commit c) fit = eq-eqb n (last_change j + 1) fit
    by n Undo fit = and_from _ _ (lt-ltb (final_number j) n fit.0) (and_from _ _ (le-leb n (last_change j) fit.1) fit.2)
    by n Redo fit = and_from _ _ (lt-ltb (final_number j) n fit.0) (and_from _ _ (le-leb n (last_change j) fit.1) (not_from_false _ fit.2))
    by n (Empty marks) fit = refl
