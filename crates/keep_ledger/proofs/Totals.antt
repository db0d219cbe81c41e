-- What a watch is told fits its total.
use Rattle.std.proofs.Common.{◌≡◌, ℕ, zero, suc, ◌+◌, ◌*◌, ◌<◌, ◌≤◌, nat_lt, Bool, true, false, cond, List, [], ◌∷◌, Option, Some, None, arith, get_or, length, length-append, refl, subst, sym}
use Rattle.std.specs.Prelude.{◌^◌, IfSome}
use Rattle.std.specs.List.{All, filter, filter_map, fold, sum_by}
use Rattle.std.proofs.lemmas.List.{length-map}
use Rattle.std.proofs.lemmas.List.Elements.{All-map}
use Rattle.std.proofs.lemmas.List.Sums.{sum_by-cons}
use Rattle.keep_repo.specs.Repository.{Repository}
use Rattle.keep_change.specs.Limits.{facet_limit}
use Rattle.keep_change.specs.Outline.{empty_outline, outline_of}
use Rattle.keep_change.specs.Touch.{facets}
use Rattle.keep_change.specs.declared.change.Change.{Change}
use Rattle.keep_change.specs.declared.outline.Outline.{Outline}
use Rattle.keep_change.specs.declared.outline.What.{What}
use Rattle.keep_change.specs.declared.outline.What.TheVariants as what
use Rattle.keep_hooks.specs.Guards.{ArmedData, HasRoom, Rule, Tally}
use Rattle.keep_hooks.specs.Measures.{measure_of}
use Rattle.keep_hooks.specs.Written.{name_count}
use Rattle.keep_hooks.specs.declared.measure.Measure.{Measure}
use Rattle.keep_hooks.proofs.Counting.{measures_are_small_lem}
use Rattle.keep_journal.specs.Event.{commit_of}
use Rattle.keep_journal.specs.History.{AscendFrom, change_of, length_of}
use Rattle.keep_journal.specs.Journal.{Journal}
use Rattle.keep_journal.specs.Opening.{AreWithinLimit, IsOpen}
use Rattle.keep_journal.specs.declared.event.Entry.{Entry}
use Rattle.keep_journal.specs.declared.event.EventKind.{EventKind}
use Rattle.keep_journal.specs.declared.event.EventKind.TheVariants as kind
use Rattle.keep_journal.proofs.Later.{within_change}
use Rattle.keep_ledger.specs.Guarding.{IsOutline, outline_at, outline_by, outline_in}
use Rattle.keep_ledger.specs.Limits.{event_limit}
use Rattle.keep_ledger.specs.Sums.{AreSums, sum_of}

-- an outline names facets of its change
pub names_of : (what : What) (n : ℕ) (c : Change) → name_count (outline_of what n c) ≤ length (facets c)
names_of what n c = grind (arith, length-append, length-map)

-- so that of a change of the history is within the limit
pub names_at : (j : Journal) (what : What) (n : ℕ) → AreWithinLimit j → name_count (outline_at j what n) ≤ facet_limit
names_at j what n within = split (change_of j n) refl where
  split : (found : Option Change) → change_of j n ≡ found → name_count (outline_at j what n) ≤ facet_limit
  split None e = rw e (omega arith)
  split (Some c) e = rw e (omega (arith, names_of what n c, within_change j n c within e))

pub few_names : (rules : List Rule) (tallies : List Tally) (o : Outline) (made : Option Outline) → IsOutline rules tallies o made
    → name_count o ≤ facet_limit → IfSome made (λ m. name_count m ≤ 2 ^ 20)
few_names rules tallies o None is within = tt
few_names rules tallies o (Some m) is within = rw is (omega (arith, within))

-- ---- how much events count for

-- a change's event counts for its facets and one at most
count_of : (m : Measure) (what : What) (n : ℕ) (c : Change) → length (facets c) ≤ facet_limit → measure_of m (outline_of what n c) ≤ 65537
count_of m what n c within = omega (arith, within, names_of what n c, measures_are_small_lem m (outline_of what n c))

module _ (j : Journal) (is : AreWithinLimit j) (since : ℕ) (m : Measure) where
  -- and so does each event of a history whose changes are within the limit
  count_in : (k n : ℕ) (did : EventKind) (es : List Entry)
      → All (λ n. length (facets n.change) ≤ facet_limit) (filter_map (λ x. commit_of x.event) (record { at = k; event = record { number = n; kind = did } } ∷ es))
      → measure_of m (outline_by j n did) ≤ 65537
  count_in k n (kind.Commit c) es all = count_of m what.Commit n c (all zero (record { number = n; change = c }) (omega arith))
  count_in k n kind.Undo es all = omega (arith, names_at j what.Undo n is, measures_are_small_lem m (outline_at j what.Undo n))
  count_in k n kind.Redo es all = omega (arith, names_at j what.Redo n is, measures_are_small_lem m (outline_at j what.Redo n))
  count_in k n (kind.Empty marks) es all = omega (arith, measures_are_small_lem m (empty_outline n))

  all_but_first : (k n : ℕ) (did : EventKind) (es : List Entry)
      → All (λ n. length (facets n.change) ≤ facet_limit) (filter_map (λ x. commit_of x.event) (record { at = k; event = record { number = n; kind = did } } ∷ es))
      → All (λ n. length (facets n.change) ≤ facet_limit) (filter_map (λ x. commit_of x.event) es)
  all_but_first k n (kind.Commit c) es all = λ i d within. all (suc i) d (omega arith)
  all_but_first k n kind.Undo es all = all
  all_but_first k n kind.Redo es all = all
  all_but_first k n (kind.Empty marks) es all = all

  sum_within : (es : List Entry) → All (λ n. length (facets n.change) ≤ facet_limit) (filter_map (λ x. commit_of x.event) es)
      → sum_by (λ e. measure_of m (outline_in j e.event)) (filter (λ e. nat_lt since e.at) es) ≤ length es * 65537
  sum_within [] all = omega arith
  sum_within (e ∷ es) all =
      split (nat_lt since e.at) (count_in e.at e.event.number e.event.kind es all) (sum_within es (all_but_first e.at e.event.number e.event.kind es all))
    where
      split : (b : Bool) → measure_of m (outline_in j e.event) ≤ 65537
          → sum_by (λ x. measure_of m (outline_in j x.event)) (filter (λ x. nat_lt since x.at) es) ≤ length es * 65537
          → sum_by (λ x. measure_of m (outline_in j x.event)) (cond b (e ∷ filter (λ x. nat_lt since x.at) es) (filter (λ x. nat_lt since x.at) es))
          ≤ length (e ∷ es) * 65537
      split true one rest =
          let parts = sum_by-cons (λ x. measure_of m (outline_in j x.event)) e (filter (λ x. nat_lt since x.at) es) in
          omega (arith, one, rest, parts)
      split false one rest = omega (arith, rest)

-- a history has no more events than its last one's number
so_many : (k : ℕ) (es : List Entry) → AscendFrom k es → k + length es ≤ fold (λ before e. e.at) k es
so_many k [] rise = omega arith
so_many k (e ∷ es) rise = omega (arith, rise.0, so_many e.at es rise.1)

-- totals that are sums have room for one more event
pub have_room : (opening : Repository) (j : Journal) (live : Repository) (watches : List ArmedData) (tallies : List Tally)
    → IsOpen opening j live → AreSums j watches tallies → length_of j < event_limit → All HasRoom tallies
have_room opening j live watches tallies is sums room =
    subst (All HasRoom) (sym sums.1) (All-map HasRoom (sum_of j) watches (λ i watch within.
    let few = sum_within j is.within (get_or watches i watch).since (get_or watches i watch).measure j.entries is.within in
    let long = so_many 0 j.entries is.numbered.events in
    omega (arith, few, long, room)))
