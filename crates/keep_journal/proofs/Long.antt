-- The last entry still tells something.
use Rattle.std.proofs.Common.{◌≡◌, ℕ, ◌<◌, Bool, true, false, cond, List, [], ◌∷◌, refl, arith, subst}
use Rattle.std.specs.List.{fold}
use Rattle.std.proofs.lemmas.Bool.{both_ways, eq-eqb, lt-ltb}
use Rattle.keep_journal.specs.History.{final_after, final_by, final_number, ComeInTurn, FitsBy, IsNumbered}
use Rattle.keep_journal.specs.Journal.{Journal, posted}
use Rattle.keep_journal.specs.declared.event.Entry.{Entry}
use Rattle.keep_journal.specs.declared.event.EventKind.{EventKind}
use Rattle.keep_journal.specs.declared.event.EventKind.TheVariants.{Commit, Undo, Redo, Empty}
use Rattle.keep_journal.proofs.Commits.{final_number-push, IsNumbered-push}
use Rattle.keep_journal.specs.Laws.{LastingIsAsLong}
use Rattle.keep_journal.specs.Lasting.{Follow, lasts, lasts_by, lasting_among}

-- each entry tells something when it comes, where changes up to top were final before them
abbrev pub Tell : ℕ → List Entry → Type 0
Tell top [] = Unit {0}
Tell top (e ∷ es) = (lasts (final_after top e.event) e.event ≡ true) × Tell (final_after top e.event) es

tells : (top n : ℕ) (kind : EventKind) → top < n → lasts_by (final_by top n kind) n kind ≡ true
tells top n (Commit c) above = lt-ltb top n above
tells top n Undo above = lt-ltb top n above
tells top n Redo above = lt-ltb top n above
tells top n (Empty marks) above = eq-eqb n n refl

pub follow_tell : (top : ℕ) (es : List Entry) → Follow top es → Tell top es
follow_tell top [] follow = tt
follow_tell top (e ∷ es) follow = (tells top e.event.number e.event.kind follow.0, follow_tell (final_after top e.event) es follow.1)

pub turn_tell : (j : Journal) (es : List Entry) → IsNumbered j → ComeInTurn j es → Tell (final_number j) es
turn_tell j [] h come = tt
turn_tell j (e ∷ es) h come =
    (by e.event.number e.event.kind come.0.fits, subst (λ f. Tell f es) (final_number-push j e.at e.event) (turn_tell (posted j e.at e.event) es (IsNumbered-push j e h come.0) come.1))
  where
    by : (n : ℕ) (kind : EventKind) → FitsBy j n kind → lasts_by (final_by (final_number j) n kind) n kind ≡ true
    by n (Commit c) fits = tells (final_number j) n (Commit c) (omega (arith, h.last_final))
    by n Undo fits = tells (final_number j) n Undo fits.0
    by n Redo fits = tells (final_number j) n Redo fits.0
    by n (Empty marks) fits = eq-eqb n n refl

module _ (f : ℕ) where
  -- whether the last one is told
  ends_told : (top : ℕ) (es : List Entry) (b : Bool) → Tell top es → fold (λ before e. final_after before e.event) top es ≡ f → (top ≡ f → b ≡ true)
      → fold (λ before e. lasts f e.event) b es ≡ true
  ends_told top [] b tell final so = so final
  ends_told top (e ∷ es) b tell final so =
      ends_told (final_after top e.event) es (lasts f e.event) tell.1 final (λ is. subst (λ g. lasts g e.event ≡ true) is tell.0)

  same_end : (es : List Entry) (b : Bool) (m k : ℕ) → fold (λ before e. lasts f e.event) b es ≡ true → (b ≡ true → m ≡ k)
      → fold (λ before e. e.at) m (lasting_among f es) ≡ fold (λ before e. e.at) k es
  same_end [] b m k told same = same told
  same_end (e ∷ es) b m k told same = by (lasts f e.event) refl (λ t x y. same_end es t x y)
    where
      by : (a : Bool) → lasts f e.event ≡ a
          → ((t : Bool) (x y : ℕ) → fold (λ before z. lasts f z.event) t es ≡ true → (t ≡ true → x ≡ y) → fold (λ before z. z.at) x (lasting_among f es) ≡ fold (λ before z. z.at) y es)
          → fold (λ before z. z.at) m (cond a (e ∷ lasting_among f es) (lasting_among f es)) ≡ fold (λ before z. z.at) e.at es
      by true is rest = rest (lasts f e.event) e.at e.at told (λ t. refl)
      by false is rest = rest (lasts f e.event) m e.at told (λ t. absurd (both_ways (lasts f e.event) is t))

  -- so what is told ends with the same number
  pub told_long : (top : ℕ) (es : List Entry) → Tell top es → fold (λ before e. final_after before e.event) top es ≡ f
      → fold (λ before e. e.at) 0 (lasting_among f es) ≡ fold (λ before e. e.at) 0 es
  told_long top es tell final = same_end es true 0 0 (ends_told top es true tell final (λ is. refl)) (λ t. refl)

pub as_long : LastingIsAsLong
as_long es follow = told_long (final_number (record { base = 0; entries = es })) 0 es (follow_tell 0 es follow) refl
