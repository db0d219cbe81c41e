-- Each emptying is of changes up to the final number, so what tells something once more changes are final, told it
-- before.
use Rattle.std.proofs.Common.{◌≡◌, ℕ, ◌<◌, ◌≤◌, Bool, true, false, ◌&&◌, List, [], ◌∷◌, refl, sym, ap, ◌∙◌, arith, subst, cond}
use Rattle.std.specs.List.{AllByRecursion, filter, fold}
use Rattle.std.proofs.lemmas.Bool.{eqb-true, lt-ltb, ltb-true}
use Rattle.keep_journal.specs.History.{final_after, final_by, final_number, ComeInTurn}
use Rattle.keep_journal.specs.Journal.{Journal, posted}
use Rattle.keep_journal.specs.declared.event.Entry.{Entry}
use Rattle.keep_journal.specs.declared.event.EventKind.{EventKind}
use Rattle.keep_journal.specs.declared.event.EventKind.TheVariants.{Commit, Undo, Redo, Empty}
use Rattle.keep_journal.proofs.Commits.{final_number-push}
use Rattle.keep_journal.specs.Lasting.{Follow, lasts, lasts_by, lasting_among}
use Rattle.keep_journal.proofs.Filters.{filter-filter}
use Rattle.keep_journal.proofs.Legal.{final_rises}

-- the entry's event makes no change above f final
abbrev pub IsWithin : ℕ → Entry → Type 0
IsWithin f e = final_after f e.event ≤ f

within_by : (f top n : ℕ) (kind : EventKind) → final_by top n kind ≤ f → final_by f n kind ≤ f
within_by f top n (Commit c) low = omega arith
within_by f top n Undo low = omega arith
within_by f top n Redo low = omega arith
within_by f top n (Empty marks) low = low

-- ---- of a legal journal

pub turns_within : (f : ℕ) (j : Journal) (es : List Entry) → ComeInTurn j es → fold (λ before e. final_after before e.event) (final_number j) es ≤ f → AllByRecursion (IsWithin f) es
turns_within f j [] come low = tt
turns_within f j (e ∷ es) come low =
    let next = final_number-push j e.at e.event in
    let rest : fold (λ before x. final_after before x.event) (final_number (posted j e.at e.event)) es ≤ f =
    subst (λ g. fold (λ before (x : Entry). final_after before x.event) g es ≤ f) (sym next) low in
    let rises = final_rises (posted j e.at e.event) es come.1 in
    (within_by f (final_number j) e.event.number e.event.kind (omega (arith, next, rises, rest)), turns_within f (posted j e.at e.event) es come.1 rest)

-- ---- of entries that follow

follow_by : (top n : ℕ) (kind : EventKind) → top < n → top ≤ final_by top n kind
follow_by top n (Commit c) above = omega arith
follow_by top n Undo above = omega arith
follow_by top n Redo above = omega arith
follow_by top n (Empty marks) above = omega arith

pub follow_rises : (top : ℕ) (es : List Entry) → Follow top es → top ≤ fold (λ before e. final_after before e.event) top es
follow_rises top [] follow = omega arith
follow_rises top (e ∷ es) follow =
    omega (arith, follow_by top e.event.number e.event.kind follow.0, follow_rises (final_after top e.event) es follow.1)

pub follow_within : (f top : ℕ) (es : List Entry) → Follow top es → fold (λ before e. final_after before e.event) top es ≤ f → AllByRecursion (IsWithin f) es
follow_within f top [] follow low = tt
follow_within f top (e ∷ es) follow low =
    let rises = follow_rises (final_after top e.event) es follow.1 in
    (within_by f top e.event.number e.event.kind (omega (arith, rises, low)), follow_within f (final_after top e.event) es follow.1 low)

-- ---- what is told where more changes are final

pub told_before : (f n : ℕ) → f < n → (e : Entry) → IsWithin f e → lasts n e.event ≡ true → lasts f e.event ≡ true
told_before f n below e within told = by e.event.number e.event.kind within told
  where
    by : (m : ℕ) (kind : EventKind) → final_by f m kind ≤ f → lasts_by n m kind ≡ true → lasts_by f m kind ≡ true
    by m (Commit c) low t = lt-ltb f m (omega (arith, ltb-true n m t))
    by m Undo low t = lt-ltb f m (omega (arith, ltb-true n m t))
    by m Redo low t = lt-ltb f m (omega (arith, ltb-true n m t))
    by m (Empty marks) low t = absurd (omega (arith, eqb-true m n t))

-- it is told of what was told before
pub told_deep : (f n : ℕ) → f < n → (es : List Entry) → AllByRecursion (IsWithin f) es → lasting_among n (lasting_among f es) ≡ lasting_among n es
told_deep f n below es within = filter-filter (λ (e : Entry). lasts n e.event) (λ e. lasts f e.event) es ∙ same es within
  where
    both : (a b : Bool) → (b ≡ true → a ≡ true) → (a && b) ≡ b
    both true b so = refl
    both false true so = so refl
    both false false so = refl

    same : (xs : List Entry) → AllByRecursion (IsWithin f) xs → filter (λ e. lasts f e.event && lasts n e.event) xs ≡ lasting_among n xs
    same [] all = refl
    same (x ∷ xs) all =
        ap (λ b. cond b (x ∷ filter (λ e. lasts f e.event && lasts n e.event) xs) (filter (λ e. lasts f e.event && lasts n e.event) xs)) (both (lasts f x.event) (lasts n x.event) (told_before f n below x all.0))
        ∙ ap (λ ys. cond (lasts n x.event) (x ∷ ys) ys) (same xs all.1)
