-- What a legal journal still tells is legal.
use Rattle.std.proofs.Common.{◌≡◌, ℕ, ◌+◌, ◌-◌, ◌<◌, ◌≤◌, ◌==◌, Bool, true, false, cond, List, [], ◌∷◌, ◌++◌, length, Option, None, refl, sym, ap, ◌∙◌, arith, subst, append-nil, append_assoc}
use Rattle.std.specs.List.{fold}
use Rattle.std.proofs.lemmas.Bool.{eqb-false, eqb-true, ltb-true}
use Rattle.keep_change.specs.declared.change.PackMark.{PackMark}
use Rattle.keep_journal.specs.Event.{emptying}
use Rattle.keep_journal.specs.History.{committed, final_after, final_by, final_number, last_change, last_marks, marks_by, ComeInTurn, ComesNext, FitsBy, IsLegal, IsNumbered}
use Rattle.keep_journal.specs.Journal.{Journal, posted}
use Rattle.keep_journal.specs.declared.event.Entry.{Entry}
use Rattle.keep_journal.specs.declared.event.EventKind.{EventKind}
use Rattle.keep_journal.specs.declared.event.EventKind.TheVariants.{Commit, Undo, Redo, Empty}
use Rattle.keep_journal.proofs.Commits.{final_number-push, last_marks-push, IsNumbered-push}
use Rattle.keep_journal.specs.Lasting.{lasts, lasts_by, lasting_among, lasting}
use Rattle.keep_journal.proofs.Telling.{committed_told, count_told, final_told, force_told, length_told, told_with, told_without}

-- ---- a legal journal is numbered

turns_numbered : (j : Journal) (es : List Entry) → IsNumbered j → ComeInTurn j es → IsNumbered (record { base = j.base; entries = j.entries ++ es })
turns_numbered j [] h come = rw (append-nil j.entries) h
turns_numbered j (e ∷ es) h come = rw (← append_assoc j.entries (e ∷ []) es) (turns_numbered (posted j e.at e.event) es (IsNumbered-push j e h come.0) come.1)

pub none_numbered : (base : ℕ) → IsNumbered (record { base = base; entries = [] })
none_numbered base = record { events = tt; commits = tt; first_final = omega arith; last_final = omega arith }

pub legal_numbered : (j : Journal) → IsLegal j → IsNumbered j
legal_numbered j legal = turns_numbered (record { base = j.base; entries = [] }) j.entries (none_numbered j.base) legal

-- ---- the final number only goes up

final_up : (j : Journal) (n : ℕ) (kind : EventKind) → FitsBy j n kind → final_number j ≤ final_after (final_number j) (record { number = n; kind = kind })
final_up j n (Commit c) fits = omega arith
final_up j n Undo fits = omega arith
final_up j n Redo fits = omega arith
final_up j n (Empty marks) fits = fits.1

pub final_rises : (j : Journal) (es : List Entry) → ComeInTurn j es → final_number j ≤ fold (λ before e. final_after before e.event) (final_number j) es
final_rises j [] come = omega arith
final_rises j (e ∷ es) come =
    let first = final_up j e.event.number e.event.kind come.0.fits in
    let rest = final_rises (posted j e.at e.event) es come.1 in
    let next = final_number-push j e.at e.event in
    let later = subst (λ g. g ≤ fold (λ before (x : Entry). final_after before x.event) g es) next rest in
    omega (arith, first, later)

-- ---- what is told of the entries so far, of a history that began with b, where changes up to f become final

module _ (f b : ℕ) (low : b ≤ f) where
  abbrev all : List Entry → Journal
  all es = record { base = b; entries = es }

  abbrev told : List Entry → Journal
  told es = record { base = f; entries = lasting_among f es }

  last_told : (es : List Entry) → IsNumbered (all es) → last_change (told es) ≡ f + (b + 1 + length (committed (all es)) - (f + 1))
  last_told es h = ap (λ cs. f + length cs) (committed_told f es) ∙ ap (λ n. f + n) (count_told f (b + 1) (committed (all es)) h.commits (omega arith))

  -- no emptying that is told stands before one that made f final
  abbrev IsFirst : List Entry → Type 0
  IsFirst es = (final_number (all es) ≡ f → last_marks (all es) ≡ None) → last_marks (told es) ≡ None

  fits_told : (es : List Entry) → IsNumbered (all es) → IsFirst es → (n : ℕ) (kind : EventKind) → lasts_by f n kind ≡ true → FitsBy (all es) n kind → FitsBy (told es) n kind
  fits_told es h first n (Commit c) is fits = omega (arith, last_told es h, ltb-true f n is)
  fits_told es h first n Undo is fits =
      let above : f < n = ltb-true f n is in
      (omega (arith, final_told f es), omega (arith, last_told es h, fits.1), force_told f n above es false ∙ fits.2)
  fits_told es h first n Redo is fits =
      let above : f < n = ltb-true f n is in
      (omega (arith, final_told f es), omega (arith, last_told es h, fits.1), force_told f n above es false ∙ fits.2)
  fits_told es h first n (Empty marks) is fits =
      let it : n ≡ f = eqb-true n f is in
      (fits.0, omega (arith, final_told f es), omega (arith, last_told es h), λ same. first (λ so. fits.3 (it ∙ sym so)))

  next_told : (es : List Entry) (e : Entry) → IsNumbered (all es) → IsFirst es → lasts f e.event ≡ true → ComesNext (all es) e → ComesNext (told es) e
  next_told es e h first is next = record {
    above = omega (arith, next.above, length_told f 0 0 es h.events (omega arith));
    fits = fits_told es h first e.event.number e.event.kind is next.fits;
  }

  abbrev one : Entry → ℕ → EventKind → Entry
  one e n kind = record { at = e.at; event = record { number = n; kind = kind } }

  -- an entry that is no emptying leaves the marks
  plain_more : (es : List Entry) (e : Entry) (n : ℕ) (kind : EventKind) → IsFirst es → ((m : ℕ) → final_by m n kind ≡ m) → ((o : Option (List PackMark)) → marks_by o kind ≡ o) → IsFirst (es ++ one e n kind ∷ [])
  plain_more es e n kind first no_final no_marks only = by (lasts_by f n kind) refl ∙ first before
    where
      before : final_number (all es) ≡ f → last_marks (all es) ≡ None
      before so =
          sym (last_marks-push (all es) e.at (record { number = n; kind = kind }) ∙ no_marks (last_marks (all es)))
          ∙ only (final_number-push (all es) e.at (record { number = n; kind = kind }) ∙ no_final (final_number (all es)) ∙ so)

      by : (t : Bool) → lasts_by f n kind ≡ t → last_marks (told (es ++ one e n kind ∷ [])) ≡ last_marks (told es)
      by true is =
          ap (λ xs. last_marks (record { base = f; entries = xs })) (told_with f es (one e n kind) is)
          ∙ last_marks-push (told es) e.at (record { number = n; kind = kind }) ∙ no_marks (last_marks (told es))
      by false is = ap (λ xs. last_marks (record { base = f; entries = xs })) (told_without f es (one e n kind) is)

  first_more : (es : List Entry) (e : Entry) → IsFirst es → ComesNext (all es) e → final_number (posted (all es) e.at e.event) ≤ f → IsFirst (es ++ e ∷ [])
  first_more es e first next upto = by e.event.number e.event.kind next.fits upto
    where
      by : (n : ℕ) (kind : EventKind) → FitsBy (all es) n kind → final_number (posted (all es) e.at (record { number = n; kind = kind })) ≤ f → IsFirst (es ++ one e n kind ∷ [])
      by n (Commit c) fits high only = plain_more es e n (Commit c) first (λ m. refl) (λ o. refl) only
      by n Undo fits high only = plain_more es e n Undo first (λ m. refl) (λ o. refl) only
      by n Redo fits high only = plain_more es e n Redo first (λ m. refl) (λ o. refl) only
      by n (Empty marks) fits high only = at (n == f) refl
        where
          final : final_number (posted (all es) e.at (emptying n marks)) ≡ n
          final = final_number-push (all es) e.at (emptying n marks)

          at : (t : Bool) → (n == f) ≡ t → last_marks (told (es ++ one e n (Empty marks) ∷ [])) ≡ None
          at true is =
              let none = only (final ∙ eqb-true n f is) in
              let some = last_marks-push (all es) e.at (emptying n marks) in
              cc (none, some)
          at false is =
              ap (λ xs. last_marks (record { base = f; entries = xs })) (told_without f es (one e n (Empty marks)) is)
              ∙ first (λ so. absurd (eqb-false n f is (omega (arith, so, fits.1, high, final))))

  turns_told : (es rest : List Entry) → IsNumbered (all es) → IsFirst es → ComeInTurn (all es) rest
      → fold (λ before e. final_after before e.event) (final_number (all es)) rest ≡ f → ComeInTurn (told es) (lasting_among f rest)
  turns_told es [] h first come final = tt
  turns_told es (e ∷ rest) h first come final =
      by (lasts f e.event) refl (turns_told (es ++ e ∷ []) rest (IsNumbered-push (all es) e h come.0) (first_more es e first come.0 upto) come.1 ends)
    where
      ends : fold (λ before x. final_after before x.event) (final_number (posted (all es) e.at e.event)) rest ≡ f
      ends = ap (λ g. fold (λ before (x : Entry). final_after before x.event) g rest) (final_number-push (all es) e.at e.event) ∙ final

      upto : final_number (posted (all es) e.at e.event) ≤ f
      upto = subst (λ g. final_number (posted (all es) e.at e.event) ≤ g) ends (final_rises (posted (all es) e.at e.event) rest come.1)

      by : (t : Bool) → lasts f e.event ≡ t → ComeInTurn (told (es ++ e ∷ [])) (lasting_among f rest) → ComeInTurn (told es) (cond t (e ∷ lasting_among f rest) (lasting_among f rest))
      by true is later = (next_told es e h first is come.0, subst (λ xs. ComeInTurn (record { base = f; entries = xs }) (lasting_among f rest)) (told_with f es e is) later)
      by false is later = subst (λ xs. ComeInTurn (record { base = f; entries = xs }) (lasting_among f rest)) (told_without f es e is) later

pub legal_told : (j : Journal) → IsLegal j → IsLegal (lasting j)
legal_told j legal =
    turns_told (final_number j) j.base (legal_numbered j legal).first_final [] j.entries (none_numbered j.base) (λ only. refl) legal refl
