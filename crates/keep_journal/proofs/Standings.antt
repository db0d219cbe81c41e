-- What a history keeps of each change, after one more event, and where it is looked up.
use Rattle.std.proofs.Common.{◌≡◌, ℕ, zero, suc, ◌+◌, ◌-◌, ◌<◌, ◌≤◌, ◌==◌, nat_le, nat_lt, Bool, true, false, ◌&&◌, ◌||◌, not, List, [], ◌∷◌, ◌++◌, cond, drop, get_or, length, map, set, Option, Some, None, inl, inr, refl, subst, sym, ap, ap₂, ◌∙◌, arith, Bor}
use Rattle.std.proofs.lemmas.Bool.{cases_lt, eq-eqb, le-leb, le-ltb, lt-ltb, ne_eqb}
use Rattle.std.proofs.lemmas.List.{append-nil, drop-drop, drop-map, length-map, map-append}
use Rattle.std.proofs.lemmas.Option.{same_Some, slice_get-map, slice_get_past, slice_get_read}
use Rattle.std.specs.List.{fold, slice_get}
use Rattle.std.specs.Option.{MatchOption, option_copied, option_map, option_to_list}
use Rattle.std.specs.Slice.{IsItemAt}
use Rattle.keep_names.specs.declared.file_name.FileName.{FileName}
use Rattle.keep_change.specs.Fold.{Numbered}
use Rattle.keep_change.specs.Lists.{file_names}
use Rattle.keep_change.specs.declared.change.Change.{Change}
use Rattle.keep_change.specs.declared.change.PackMark.{PackMark}
use Rattle.keep_journal.specs.Event.{commit_of, committing, emptying, names_added, notice_of, redoing, undoing}
use Rattle.keep_journal.specs.History.{change_of, committed, final_after, final_number, in_force_after, is_in_force, last_change, notices_of, status_of, ComesNext, CountsFrom, FitsBy, IsNumbered}
use Rattle.keep_journal.specs.Journal.{Journal, Recorded, posted}
use Rattle.keep_journal.specs.Kept.{above, is_kept, kept_change, unfinal, unfinal_changes}
use Rattle.keep_journal.specs.Standings.{changes_in, last_after, last_by, names_of, standing_of, standings_of, Follow, IsStandingOf, IsUpToDate, Reaches, ReachesBy}
use Rattle.keep_journal.specs.declared.event.Entry.{Entry}
use Rattle.keep_journal.specs.declared.event.Event.{Event}
use Rattle.keep_journal.specs.declared.event.EventKind.{EventKind}
use Rattle.keep_journal.specs.declared.event.EventKind.TheVariants.{Commit, Undo, Redo, Empty}
use Rattle.keep_journal.specs.declared.event.Notice.{Notice}
use Rattle.keep_journal.specs.declared.history.Status.TheVariants.{Final}
use Rattle.keep_journal.specs.declared.standing.Standing.{Standing}
use Rattle.keep_journal.proofs.Chosen.{chosen-Commit, chosen-Empty, chosen-Redo, chosen-Undo}
use Rattle.keep_journal.proofs.Commits.{committed-Commit, committed-Empty, committed-Redo, committed-Undo, final_number-push, find-slice_get, is_in_force-push, last_change-Commit, last_change-Empty, last_change-Redo, last_change-Undo, no_change, some_change, IsLegal-push, IsNumbered-push}
use Rattle.keep_journal.proofs.Unfinal.{above_is_drop, change_at, unfinal_counts, unfinal_length}

-- ---- lists that are numbered from k on

-- what agrees on the numbers in use
counted_map : (f g : Numbered → Standing) (k : ℕ) (ns : List Numbered) → CountsFrom k ns
    → ((n : Numbered) → k ≤ n.number → n.number < k + length ns → f n ≡ g n) → map f ns ≡ map g ns
counted_map f g k [] h agree = refl
counted_map f g k (m ∷ ns) h agree =
    let first : m.number ≡ k = h.0 in
    ap₂ ◌∷◌ (agree m (omega arith) (omega arith)) (counted_map f g (k + 1) ns h.1 (λ n low high. agree n (omega arith) (omega arith)))

-- the one at place i has number k + i
counted_at : (k : ℕ) (ns : List Numbered) (i : ℕ) (m : Numbered) → CountsFrom k ns → slice_get ns i ≡ Some m → m.number ≡ k + i
counted_at k [] i m h is = cc is
counted_at k (x ∷ ns) zero m h is = ap (λ y. y.number) (sym (same_Some x m is)) ∙ h.0 ∙ omega arith
counted_at k (x ∷ ns) (suc i) m h is = counted_at (k + 1) ns i m h.1 is ∙ omega arith

-- ---- how changes stand after one more event

stands_alike : (j k : Journal) (n : Numbered) (b : Bool) → is_in_force k n.number ≡ b → standing_of k n ≡ record { change = n.change; in_force = b }
stands_alike j k n b same = ap (λ (f : Bool). let s : Standing = record { change = n.change; in_force = f } in s) same

-- the one of number n is turned, and all others stay
turned_at : (j k : Journal) (b : Bool) (n : ℕ) → ((m : ℕ) → is_in_force k m ≡ cond (n == m) b (is_in_force j m))
    → (from : ℕ) (ns : List Numbered) (i : ℕ) (s : Standing) → CountsFrom from ns → i < length ns → n ≡ from + i → s ≡ get_or (map (standing_of j) ns) i s
    → set (map (standing_of j) ns) i (record { change = s.change; in_force = b }) ≡ map (standing_of k) ns
turned_at j k b n turns from [] i s h within number read = absurd (omega arith)
turned_at j k b n turns from (m ∷ ns) zero s h within number read =
    let first : m.number ≡ from = h.0 in
    let change : s.change ≡ m.change = ap (λ t. t.change) read in
    let here : is_in_force k m.number ≡ b = turns m.number ∙ ap (λ t. cond t b (is_in_force j m.number)) (eq-eqb n m.number (omega arith)) in
    let new : record { change = s.change; in_force = b } ≡ standing_of k m = ap (λ c. record { change = c; in_force = b }) change ∙ sym (stands_alike j k m b here) in
    ap₂ ◌∷◌ new (counted_map (standing_of j) (standing_of k) (from + 1) ns h.1 (λ x low high.
    sym (stands_alike j k x (is_in_force j x.number) (turns x.number ∙ ap (λ t. cond t b (is_in_force j x.number)) (ne_eqb n x.number (λ e. omega arith))))))
turned_at j k b n turns from (m ∷ ns) (suc i) s h within number read =
    let first : m.number ≡ from = h.0 in
    let here : is_in_force k m.number ≡ is_in_force j m.number = turns m.number ∙ ap (λ t. cond t b (is_in_force j m.number)) (ne_eqb n m.number (λ e. omega arith)) in
    ap₂ ◌∷◌ (sym (stands_alike j k m (is_in_force j m.number) here))
    (turned_at j k b n turns (from + 1) ns i s h.1 (omega arith) (omega arith) read)

or_other : (n m : ℕ) (b : Bool) → (n ≡ m → ⊥) → (n == m || b) ≡ b
or_other n m b ne = rw (ne_eqb n m ne) refl

pub standings-Commit : (j : Journal) (k n : ℕ) (c : Change) → IsNumbered j → n ≡ last_change j + 1
    → standings_of j ++ record { change = c; in_force = true } ∷ [] ≡ standings_of (posted j k (committing n c))
standings-Commit j k n c h next =
    let after : Journal = posted j k (committing n c) in
    let last = h.last_final in
    let count = unfinal_length j h in
    let new : Numbered = record { number = n; change = c } in
    let longer : unfinal after ≡ unfinal j ++ new ∷ [] =
    ap (above after) (final_number-push j k (committing n c))
    ∙ chosen-Commit (nat_lt (final_number j)) j k n c
    ∙ ap (λ b. unfinal j ++ cond b (new ∷ []) []) (lt-ltb (final_number j) n (omega arith)) in
    let same : map (standing_of j) (unfinal j) ≡ map (standing_of after) (unfinal j) =
    counted_map (standing_of j) (standing_of after) (final_number j + 1) (unfinal j) (unfinal_counts j h) (λ m low high.
    sym (stands_alike j after m (is_in_force j m.number) (is_in_force-push j k (committing n c) m.number ∙ or_other n m.number (is_in_force j m.number) (λ e. omega arith)))) in
    let here : is_in_force after n ≡ true = is_in_force-push j k (committing n c) n ∙ ap (λ b. b || is_in_force j n) (eq-eqb n n refl) in
    ap₂ ◌++◌ same (ap (λ s. s ∷ []) (sym (stands_alike j after new true here)))
    ∙ sym (ap (map (standing_of after)) longer ∙ map-append (standing_of after) (unfinal j) (new ∷ []))

undo_turns : (n m : ℕ) (was : Bool) → in_force_after m was (undoing n) ≡ cond (n == m) false was
undo_turns n m was = elim (n == m) as (λ b. (not b && was) ≡ cond b false was) [ true ↦ refl | false ↦ refl ]

redo_turns : (n m : ℕ) (was : Bool) → in_force_after m was (redoing n) ≡ cond (n == m) true was
redo_turns n m was = elim (n == m) as (λ b. (b || was) ≡ cond b true was) [ true ↦ refl | false ↦ refl ]

-- the standing at the change's place is written
standings_set : (j after : Journal) (b : Bool) (n : ℕ) (s : Standing) → IsNumbered j → final_number j < n → n ≤ last_change j
    → unfinal after ≡ unfinal j → ((m : ℕ) → is_in_force after m ≡ cond (n == m) b (is_in_force j m))
    → s ≡ get_or (standings_of j) (n - final_number j - 1) s
    → set (standings_of j) (n - final_number j - 1) (record { change = s.change; in_force = b }) ≡ standings_of after
standings_set j after b n s h above within same turns read =
    let count = unfinal_length j h in
    turned_at j after b n turns (final_number j + 1) (unfinal j) (n - final_number j - 1) s (unfinal_counts j h) (omega arith) (omega arith) read
    ∙ sym (ap (map (standing_of after)) same)

pub standings-Undo : (j : Journal) (k n : ℕ) (s : Standing) → IsNumbered j → final_number j < n → n ≤ last_change j
    → s ≡ get_or (standings_of j) (n - final_number j - 1) s
    → set (standings_of j) (n - final_number j - 1) (record { change = s.change; in_force = false }) ≡ standings_of (posted j k (undoing n))
standings-Undo j k n s h above_final within read =
    standings_set j (posted j k (undoing n)) false n s h above_final within
    (ap (above (posted j k (undoing n))) (final_number-push j k (undoing n)) ∙ chosen-Undo (nat_lt (final_number j)) j k n)
    (λ m. is_in_force-push j k (undoing n) m ∙ undo_turns n m (is_in_force j m)) read

pub standings-Redo : (j : Journal) (k n : ℕ) (s : Standing) → IsNumbered j → final_number j < n → n ≤ last_change j
    → s ≡ get_or (standings_of j) (n - final_number j - 1) s
    → set (standings_of j) (n - final_number j - 1) (record { change = s.change; in_force = true }) ≡ standings_of (posted j k (redoing n))
standings-Redo j k n s h above_final within read =
    standings_set j (posted j k (redoing n)) true n s h above_final within
    (ap (above (posted j k (redoing n))) (final_number-push j k (redoing n)) ∙ chosen-Redo (nat_lt (final_number j)) j k n)
    (λ m. is_in_force-push j k (redoing n) m ∙ redo_turns n m (is_in_force j m)) read

pub standings-Empty : (j : Journal) (k n : ℕ) (marks : List PackMark) → IsNumbered j → final_number j ≤ n
    → drop (n - final_number j) (standings_of j) ≡ standings_of (posted j k (emptying n marks))
standings-Empty j k n marks h further =
    let after : Journal = posted j k (emptying n marks) in
    let first = h.first_final in
    let skipped : final_number j - j.base + (n - final_number j) ≡ n - j.base = omega arith in
    let left : drop (n - final_number j) (unfinal j) ≡ unfinal after =
    ap (drop (n - final_number j)) (above_is_drop j (final_number j) h first)
    ∙ drop-drop (n - final_number j) (final_number j - j.base) (committed j)
    ∙ ap (λ d. drop d (committed j)) skipped
    ∙ sym (ap (above after) (final_number-push j k (emptying n marks)) ∙ chosen-Empty (nat_lt n) j k n marks ∙ above_is_drop j n h (omega arith)) in
    drop-map (standing_of j) (n - final_number j) (unfinal j)
    ∙ map_alike (drop (n - final_number j) (unfinal j))
    ∙ ap (map (standing_of after)) left
  where
    map_alike : (ns : List Numbered) → map (standing_of j) ns ≡ map (standing_of (posted j k (emptying n marks))) ns
    map_alike [] = refl
    map_alike (m ∷ ns) =
        ap₂ ◌∷◌ (sym (stands_alike j (posted j k (emptying n marks)) m (is_in_force j m.number) (is_in_force-push j k (emptying n marks) m.number))) (map_alike ns)

-- ---- what a history keeps

-- an event of a known kind
pub of_kind : (e : Event) (kind : EventKind) → e.kind ≡ kind → e ≡ record { number = e.number; kind = kind }
of_kind e kind is = ap (λ k. record { number = e.number; kind = k }) is

last_by-push : (j : Journal) (k n : ℕ) (kind : EventKind) (last : ℕ) → FitsBy j n kind → last ≡ last_change j
    → last_by last n kind ≡ last_change (posted j k (record { number = n; kind = kind }))
last_by-push j k n (Commit c) last fits counted = fits ∙ sym (last_change-Commit j k n c)
last_by-push j k n Undo last fits counted = counted ∙ sym (last_change-Undo j k n)
last_by-push j k n Redo last fits counted = counted ∙ sym (last_change-Redo j k n)
last_by-push j k n (Empty marks) last fits counted = counted ∙ sym (last_change-Empty j k n marks)

names_by-push : (j : Journal) (k n : ℕ) (kind : EventKind)
    → names_of j ++ option_to_list (names_added (record { number = n; kind = kind })) ≡ names_of (posted j k (record { number = n; kind = kind }))
names_by-push j k n (Commit c) =
    let names : Numbered → List FileName = λ m. file_names m.change.adds in
    sym (ap (map names) (committed-Commit j k n c) ∙ map-append names (committed j) (record { number = n; change = c } ∷ []))
names_by-push j k n Undo = append-nil (names_of j) ∙ sym (ap (map (λ m. file_names m.change.adds)) (committed-Undo j k n))
names_by-push j k n Redo = append-nil (names_of j) ∙ sym (ap (map (λ m. file_names m.change.adds)) (committed-Redo j k n))
names_by-push j k n (Empty marks) = append-nil (names_of j) ∙ sym (ap (map (λ m. file_names m.change.adds)) (committed-Empty j k n marks))

reaches_by : (j : Journal) (n : ℕ) (kind : EventKind) (final count : ℕ) → FitsBy j n kind → final ≡ final_number j → final_number j + count ≡ last_change j
    → ReachesBy final count n kind
reaches_by j n (Commit c) final count fits top counted = tt
reaches_by j n Undo final count fits top counted = (omega (arith, fits.0), omega (arith, fits.1))
reaches_by j n Redo final count fits top counted = (omega (arith, fits.0), omega (arith, fits.1))
reaches_by j n (Empty marks) final count fits top counted = (omega (arith, fits.1), omega (arith, fits.2))

-- what comes next after a history comes so after the journal that it shows
pub comes_next : (j : Journal) (entry : Entry) (r : Recorded) (given : Entry) → j ≡ r.journal → entry ≡ given → ComesNext r.journal given → ComesNext j entry
comes_next j entry r given shows is next =
    subst (λ (e : Entry). ComesNext j e) (sym is) (subst (λ (i : Journal). ComesNext i given) (sym shows) next)

-- the next event is about one of the changes that stand
pub reaches : (j : Journal) (e : Entry) (ns : List Notice) (fs : List (List FileName)) (ss : List Standing) (final last : ℕ)
    → IsUpToDate j ns fs ss final last → ComesNext j e → Reaches final (length ss) e.event
reaches j e ns fs ss final last h next =
    let count = unfinal_length j h.numbered in
    let same = ap length h.standings ∙ length-map (unfinal j) (standing_of j) in
    reaches_by j e.event.number e.event.kind final (length ss) next.fits h.last_final (omega arith)

-- what is kept is up to date after it
pub IsUpToDate-push : (j : Journal) (e : Entry) (ns : List Notice) (fs : List (List FileName)) (ss ts : List Standing) (final last : ℕ)
    → IsUpToDate j ns fs ss final last → ComesNext j e → Follow final ss ts e.event
    → IsUpToDate (posted j e.at e.event) (ns ++ notice_of e ∷ []) (fs ++ option_to_list (names_added e.event)) ts (final_after final e.event) (last_after last e.event)
IsUpToDate-push j e ns fs ss ts final last h next follow = record {
  numbered = IsNumbered-push j e h.numbered next;
  legal = IsLegal-push j e h.legal next;
  notices = ap (λ xs. xs ++ notice_of e ∷ []) h.notices ∙ sym (map-append notice_of j.entries (e ∷ []));
  names = ap (λ xs. xs ++ option_to_list (names_added e.event)) h.names ∙ names_by-push j e.at e.event.number e.event.kind;
  standings = follow j e.at h.numbered h.last_final h.standings next.fits;
  last_final = ap (λ k. final_after k e.event) h.last_final ∙ sym (final_number-push j e.at e.event);
  counted = last_by-push j e.at e.event.number e.event.kind last next.fits h.counted;
}

-- the changes that stand are those that aren't final
pub changes-standings : (j : Journal) (ss : List Standing) → ss ≡ standings_of j → changes_in ss ≡ unfinal_changes j
changes-standings j ss is = ap changes_in is ∙ each (unfinal j) where
  each : (ns : List Numbered) → changes_in (map (standing_of j) ns) ≡ map (λ n. n.change) ns
  each [] = refl
  each (n ∷ ns) = ap (λ cs. n.change ∷ cs) (each ns)

-- ---- looking one up

-- what is lent of a place
pub item_copied : {X : Type 0} (xs : List X) (p : ℕ) (r : Option (Bor X)) → IsItemAt xs p r → option_copied r ≡ slice_get xs p
item_copied xs p None item =
    let past : length xs ≤ p = item.3 in
    sym (slice_get_past xs p past)
item_copied xs p (Some x) item =
    let within : p < length xs = item.3.0 in
    sym (slice_get_read xs (length xs) p x.now refl within item.1)

pub standing_at : (j : Journal) (ss : List Standing) (n p : ℕ) (o : Option Standing) → IsNumbered j → ss ≡ standings_of j → final_number j < n
    → p ≡ n - final_number j - 1 → o ≡ slice_get ss p → MatchOption o (final_number j < n → change_of j n ≡ None) (IsStandingOf j n)
standing_at j ss n p o h is above_final place at =
    found o (slice_get (unfinal j) p) refl (at ∙ ap (λ xs. slice_get xs p) is ∙ slice_get-map (standing_of j) (unfinal j) p)
  where
    found : (o : Option Standing) (m : Option Numbered) → slice_get (unfinal j) p ≡ m → o ≡ option_map (standing_of j) m
        → MatchOption o (final_number j < n → change_of j n ≡ None) (IsStandingOf j n)
    found None None there e = λ _. change_at j n h above_final ∙ ap (λ i. option_map (λ m. m.change) (slice_get (unfinal j) i)) (sym place) ∙ ap (option_map (λ m. m.change)) there
    found None (Some m) there e = cc e
    found (Some s) None there e = cc e
    found (Some s) (Some m) there e =
        let same : s ≡ standing_of j m = same_Some s (standing_of j m) e in
        let number : m.number ≡ n = counted_at (final_number j + 1) (unfinal j) p m (unfinal_counts j h) there ∙ omega arith in
        record {
          unfinal = above_final;
          numbered =
              change_at j n h above_final ∙ ap (λ i. option_map (λ m. m.change) (slice_get (unfinal j) i)) (sym place)
              ∙ ap (option_map (λ m. m.change)) there ∙ ap (λ t. Some t.change) (sym same);
          in_force = ap (λ t. t.in_force) same ∙ ap (is_in_force j) number;
        }

-- the names that a change added
pub names_at : (j : Journal) (fs : List (List FileName)) (n : ℕ) → IsNumbered j → fs ≡ names_of j → j.base < n
    → slice_get fs (n - j.base - 1) ≡ option_map (λ c. file_names c.adds) (change_of j n)
names_at j fs n h is above_base =
    let names : Numbered → List FileName = λ m. file_names m.change.adds in
    ap (λ xs. slice_get xs (n - j.base - 1)) is
    ∙ slice_get-map names (committed j) (n - j.base - 1)
    ∙ ap (option_map names) (sym (find-slice_get (j.base + 1) (committed j) (n - j.base - 1) n h.commits (omega arith)))
    ∙ twice _
  where
    twice : (o : Option Numbered) → option_map (λ m. file_names m.change.adds) o ≡ option_map (λ c. file_names c.adds) (option_map (λ m. m.change) o)
    twice None = refl
    twice (Some m) = refl

pub no_names : (j : Journal) (n : ℕ) → IsNumbered j → n ≤ j.base → option_map (λ c. file_names c.adds) (change_of j n) ≡ None
no_names j n h below = ap (option_map (λ c. file_names c.adds)) (no_change j n h (rw (le-ltb j.base n below) refl))

pub kept_at : (j : Journal) (n : ℕ) (s : Standing) → IsStandingOf j n s → s.in_force ≡ true → kept_change j n ≡ Some s.change
kept_at j n s stands is =
    ap (λ b. cond b (change_of j n) None) (ap₂ ◌&&◌ (sym stands.in_force ∙ is) (lt-ltb (final_number j) n stands.unfinal)) ∙ stands.numbered

pub not_kept_at : (j : Journal) (n : ℕ) (s : Standing) → IsStandingOf j n s → s.in_force ≡ false → kept_change j n ≡ None
not_kept_at j n s stands is =
    ap (λ b. cond (b && nat_lt (final_number j) n) (change_of j n) None) (sym stands.in_force ∙ is)

pub none_kept : (j : Journal) (n : ℕ) → (final_number j < n → change_of j n ≡ None) → kept_change j n ≡ None
none_kept j n none = elim (cases_lt (final_number j) n) [
  | inl lt ↦ ap (λ o. cond (is_kept j n) o None) (none lt) ∙ either (is_kept j n)
  | inr le ↦ ap (λ b. cond (is_in_force j n && b) (change_of j n) None) (le-ltb (final_number j) n le) ∙ neither (is_in_force j n)
]
  where
    either : (b : Bool) → cond b (let o : Option Change = None in o) None ≡ None
    either true = refl
    either false = refl

    neither : (b : Bool) → cond (b && false) (change_of j n) None ≡ None
    neither true = refl
    neither false = refl

-- a change up to the final number is final
pub is_final : (j : Journal) (n final last : ℕ) → final ≡ final_number j → last ≡ last_change j → (n ≡ 0 → ⊥) → n ≤ last → n ≤ final → status_of j n ≡ Final
is_final j n final last is counted positive within below =
    let there : nat_lt 0 n ≡ true = lt-ltb 0 n (omega (arith, positive)) in
    let up_to : nat_le n (last_change j) ≡ true = le-leb n (last_change j) (omega arith) in
    let done : nat_le n (final_number j) ≡ true = le-leb n (final_number j) (omega arith) in
    rw (there, up_to, done) refl

-- a change that isn't final is in the journal
pub not_missing : (j : Journal) (n : ℕ) → IsNumbered j → final_number j < n → n ≤ last_change j → (final_number j < n → change_of j n ≡ None) → ⊥
not_missing j n h above_final within none =
    let first = h.first_final in
    let there = some_change j n h (omega arith) within in
    cc (there.1, none above_final)

-- ---- the last event

-- what is told of the last one has its number
pub last_told : (es : List Entry) (before k : ℕ) (x : Notice) → k + 1 ≡ length es → Some x ≡ slice_get (map notice_of es) k → x.at ≡ fold (λ b e. e.at) before es
last_told [] before k x end is = cc is
last_told (e ∷ []) before zero x end is = ap (λ y. y.at) (same_Some x (notice_of e) is)
last_told (e ∷ []) before (suc k) x end is = cc is
last_told (e ∷ f ∷ es) before zero x end is = absurd (omega arith)
last_told (e ∷ f ∷ es) before (suc k) x end is = last_told (f ∷ es) e.at k x (omega arith) is
