-- The events of an open history are entries, and their texts spell them.
use Rattle.std.proofs.Common.{◌≡◌, ℕ, ◌<◌, ◌≤◌, Bool, true, false, ◌&&◌, T, List, [], ◌∷◌, map, length, All, Contains, Option, None, Some, IfSome, Ordering, Less, Equal, Greater, inl, inr, refl, sym, ap, ap₂, subst, arith}
use Rattle.std.proofs.lemmas.List.{map-id}
use Rattle.std.proofs.lemmas.List.Elements.{All-contains, All-from_recursion, recursion_from_All}
use Rattle.std.specs.FinMap.{entries, entries_sorted, is_sorted}
use Rattle.std.specs.FinMap.Entries.{below_all}
use Rattle.std.specs.List.{AllByRecursion, cons_option, filter_map}
use Rattle.std.specs.List.Sorted.{IsStrictlySortedBy}
use Rattle.std.specs.Ordering.{is_lt}
use Rattle.keep_names.specs.Orders.{id_cmp}
use Rattle.keep_names.specs.declared.id.Id.{Id}
use Rattle.keep_repo.specs.Repository.{Repository}
use Rattle.keep_repo.specs.declared.facet.Mark as the_mark
use Rattle.keep_change.specs.Fold.{Numbered}
use Rattle.keep_change.specs.Form.{IsWellFormed}
use Rattle.keep_change.specs.Limits.{facet_limit}
use Rattle.keep_change.specs.Lists.{marked_packs}
use Rattle.keep_change.specs.Marks.{marks_of, pack_mark}
use Rattle.keep_change.specs.Touch.{facets}
use Rattle.keep_change.specs.declared.change.PackMark.{PackMark}
use Rattle.keep_journal.specs.Event.{commit_of, committing}
use Rattle.keep_journal.specs.History.{ComeInTurn, FitsBy, committed}
use Rattle.keep_journal.specs.Journal.{Journal, posted}
use Rattle.keep_journal.specs.Opening.{IsOpen}
use Rattle.keep_journal.specs.declared.event.Entry.{Entry}
use Rattle.keep_journal.specs.declared.event.Event.{Event}
use Rattle.keep_journal.specs.declared.event.EventKind.{EventKind}
use Rattle.keep_journal.specs.declared.event.EventKind.TheVariants.{Commit, Undo, Redo, Empty}
use Rattle.keep_entries.specs.Entry.{IsEntry, IsProper, Spells, kind_said}
use Rattle.keep_entries.specs.Laws.{EventsOfOpenHistoriesAreEntries, HasMarksInOrder}
use Rattle.keep_entries.specs.Spelling.{entry_text}
use Rattle.keep_entries.specs.declared.form.Form.TheVariants.{Moments}

-- ---- numbers

-- what fits a journal is about no change 0
positive : (j : Journal) (n : ℕ) (kind : EventKind) → FitsBy j n kind → 0 < n
positive j n (Commit c) h = omega (arith, h)
positive j n Undo h = omega (arith, h.0)
positive j n Redo h = omega (arith, h.0)
positive j n (Empty marks) h = h.0

-- neither is one that comes in turn, and its own number isn't 0
all_come : (j : Journal) (es : List Entry) → ComeInTurn j es → AllByRecursion (λ e. (0 < e.at) × (0 < e.event.number)) es
all_come j [] h = tt
all_come j (e ∷ es) h =
    let here : (0 < e.at) × (0 < e.event.number) = (omega (arith, h.0.above), positive j e.event.number e.event.kind h.0.fits) in
    (here, all_come (posted j e.at e.event) es h.1)

-- ---- commits

-- what holds of all changes that were committed holds of each commit
of_commits : (P : Numbered → Type 0) (es : List Entry) → AllByRecursion P (filter_map (λ e. commit_of e.event) es)
    → AllByRecursion (λ e. IfSome (commit_of e.event) P) es
of_commits P [] h = tt
of_commits P (e ∷ es) h = by_commit (commit_of e.event) h (of_commits P es)
  where
    by_commit : (o : Option Numbered) → AllByRecursion P (cons_option o (filter_map (λ x. commit_of x.event) es))
        → (AllByRecursion P (filter_map (λ x. commit_of x.event) es) → AllByRecursion (λ x. IfSome (commit_of x.event) P) es)
        → IfSome o P × AllByRecursion (λ x. IfSome (commit_of x.event) P) es
    by_commit None all rest = (tt, rest all)
    by_commit (Some n) all rest = (all.0, rest all.1)

of_commit : (P : Numbered → Type 0) (j : Journal) (e : Entry) → All P (committed j) → Contains j.entries e → IfSome (commit_of e.event) P
of_commit P j e h there =
    let each = of_commits P j.entries (recursion_from_All P (committed j) h) in
    All-contains (λ x. IfSome (commit_of x.event) P) j.entries e (All-from_recursion (λ x. IfSome (commit_of x.event) P) j.entries each) there

-- ---- marks

both : (a b : Bool) → T (a && b) → T a × T b
both true b h = (tt, h)
both false b h = absurd h

less : (o : Ordering) → T (is_lt o) → o ≡ Less
less Less h = refl
less Equal h = absurd h
less Greater h = absurd h

packs_above : (id : Id) (es : List (Id × the_mark.Mark)) → T (below_all id_cmp id es)
    → AllByRecursion (λ y. id_cmp id y ≡ Less) (marked_packs (map pack_mark es))
packs_above id [] h = tt
packs_above id (e ∷ es) h =
    let parts = both (is_lt (id_cmp id e.0)) (below_all id_cmp id es) h in
    (less (id_cmp id e.0) parts.0, packs_above id es parts.1)

-- the packs of a repository's marks ascend
packs_rise : (es : List (Id × the_mark.Mark)) → T (is_sorted id_cmp es) → IsStrictlySortedBy id_cmp (marked_packs (map pack_mark es))
unfolding IsStrictlySortedBy
packs_rise [] h = tt
packs_rise (e ∷ es) h =
    let parts = both (below_all id_cmp e.0 es) (is_sorted id_cmp es) h in
    (packs_above e.0 es parts.0, packs_rise es parts.1)

-- ---- events

proper : (opening live : Repository) (j : Journal) (at n : ℕ) (kind : EventKind)
    → IsOpen opening j live → Contains j.entries (record { at = at; event = record { number = n; kind = kind } }) → HasMarksInOrder j kind → IsProper kind
proper opening live j at n (Commit c) h there order = (
  of_commit (λ m. IsWellFormed m.change) j (record { at = at; event = committing n c }) h.formed there,
  of_commit (λ m. length (facets m.change) ≤ facet_limit) j (record { at = at; event = committing n c }) h.within there,
)
proper opening live j at n Undo h there order = tt
proper opening live j at n Redo h there order = tt
proper opening live j at n (Empty marks) h there (inl last) =
    let same : marks ≡ marks_of opening = subst (λ (o : Option (List PackMark)). IfSome o (λ ms. ms ≡ marks_of opening)) last h.marks in
    let rise = packs_rise (entries opening.marks) (entries_sorted opening.marks) in
    subst (λ (ms : List PackMark). IsStrictlySortedBy id_cmp (marked_packs ms)) (sym same) rise
proper opening live j at n (Empty marks) h there (inr order) = order

-- ---- texts

-- the form in which events are written tells all of them
kind_whole : (kind : EventKind) → kind_said Moments kind ≡ kind
kind_whole (Commit c) = ap₂ (λ (sets clears : List PackMark). Commit (record c { sets = sets; clears = clears })) (map-id c.sets) (map-id c.clears)
kind_whole Undo = refl
kind_whole Redo = refl
kind_whole (Empty marks) = ap Empty (map-id marks)

pub text_spells : (event : Event) → Spells (entry_text event) event
text_spells event = (Moments, refl, ap (λ (kind : EventKind). record event { kind = kind }) (kind_whole event.kind))

pub events_are_entries : EventsOfOpenHistoriesAreEntries
events_are_entries opening live j e h there fits order =
    let come = all_come (record { base = j.base; entries = [] }) j.entries h.legal in
    let numbers = All-contains (λ x. (0 < x.at) × (0 < x.event.number)) j.entries e (All-from_recursion (λ x. (0 < x.at) × (0 < x.event.number)) j.entries come) there in
    let is : IsEntry e = record {
      at = numbers.0;
      number = numbers.1;
      fits = fits;
      proper = proper opening live j e.at e.event.number e.event.kind h there order;
    } in
    (is, text_spells e.event)
