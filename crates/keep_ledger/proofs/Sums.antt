-- Totals are sums over the events since a watch was armed.
use Rattle.std.proofs.Common.{◌≡◌, ℕ, zero, suc, ◌+◌, ◌≤◌, ◌==◌, nat_lt, Bool, true, false, cond, List, [], ◌∷◌, ◌++◌, length, Option, Some, None, refl, sym, ap, ◌∙◌, arith, length-append}
use Rattle.std.proofs.lemmas.Bool.{le-ltb, lt-ltb, ne_eqb}
use Rattle.std.proofs.lemmas.List.{append_assoc, map-append}
use Rattle.std.proofs.lemmas.List.Elements.{All-push, filter-append, filter_map-append}
use Rattle.std.proofs.lemmas.List.Folds.{find-append}
use Rattle.std.proofs.lemmas.List.Sums.{sum_by-cons, sum_by_push}
use Rattle.std.specs.List.{All, AllByRecursion, filter, filter_map, find, fold, sum_by}
use Rattle.std.specs.Option.{option_map, option_or, unwrap_or}
use Rattle.keep_change.specs.Fold.{Numbered}
use Rattle.keep_change.specs.Marks.{marks_of}
use Rattle.keep_change.specs.Outline.{empty_outline, outline_of}
use Rattle.keep_change.specs.declared.outline.What.{What}
use Rattle.keep_change.specs.declared.outline.What.TheVariants as what
use Rattle.keep_hooks.specs.Guards.{ArmedData, Tally, WatchData, tallies_after, tally_after, untold}
use Rattle.keep_hooks.specs.Measures.{measure_of}
use Rattle.keep_hooks.specs.Rules.{armed_at}
use Rattle.keep_hooks.specs.declared.measure.Measure.{Measure}
use Rattle.keep_journal.specs.Event.{commit_of}
use Rattle.keep_journal.specs.History.{AscendFrom, ComeInTurn, FitsBy, IsNumbered, change_of, committed, last_change, length_of}
use Rattle.keep_journal.specs.Journal.{Journal, posted}
use Rattle.keep_journal.specs.Opening.{IsOpen}
use Rattle.keep_journal.specs.declared.event.Entry.{Entry}
use Rattle.keep_journal.specs.Event as event
use Rattle.keep_journal.specs.declared.event.EventKind.{EventKind}
use Rattle.keep_journal.specs.declared.event.EventKind.TheVariants as kind
use Rattle.keep_journal.proofs.Commits.{committed-Commit, committed-Empty, committed-Redo, committed-Undo, last_change-Commit, last_change-Empty, last_change-Redo, last_change-Undo, length_of-push}
use Rattle.keep_ledger.specs.LedgerState.{LedgerState}
use Rattle.keep_ledger.specs.Guarding.{event_outline, outline_at, outline_by, outline_in}
use Rattle.keep_ledger.specs.Made.{event_of, opening_after, with_event}
use Rattle.keep_journal.specs.declared.request.Request.{Request}
use Rattle.keep_journal.specs.declared.request.Request.TheVariants.{Commit, Undo, Redo, Empty}
use Rattle.keep_ledger.specs.Sums.{AreSums, count_since, sum_of, sums_of}

-- ---- the numbers that a legal history names

-- the journal, with these entries behind
abbrev joined : Journal → List Entry → Journal
joined j es = record { base = j.base; entries = j.entries ++ es }

last_change-joined : (j : Journal) (es : List Entry) → last_change j ≤ last_change (joined j es)
last_change-joined j es =
    let parts = ap length (filter_map-append (λ (e : Entry). commit_of e.event) j.entries es) in
    let both = length-append (committed j) (filter_map (λ (e : Entry). commit_of e.event) es) in
    omega (arith, parts, both)

-- an event that can come next names a change that there is then
names_one : (j : Journal) (k n : ℕ) (did : EventKind) → FitsBy j n did → n ≤ last_change (posted j k (record { number = n; kind = did }))
names_one j k n (kind.Commit c) fits = omega (arith, fits, last_change-Commit j k n c)
names_one j k n kind.Undo fits = omega (arith, fits.1, last_change-Undo j k n)
names_one j k n kind.Redo fits = omega (arith, fits.1, last_change-Redo j k n)
names_one j k n (kind.Empty marks) fits = omega (arith, fits.2, last_change-Empty j k n marks)

-- so that no event names a change past the last
all_known : (j : Journal) (es : List Entry) (last : ℕ) → ComeInTurn j es → last_change (joined j es) ≤ last
    → AllByRecursion (λ e. e.event.number ≤ last) es
all_known j [] last turn most = tt
all_known j (e ∷ es) last turn most =
    let next = posted j e.at e.event in
    let rest : last_change (joined next es) ≤ last = rw (append_assoc j.entries (e ∷ []) es) most in (
      omega (arith, names_one j e.at e.event.number e.event.kind turn.0.fits, last_change-joined next es, rest),
      all_known next es last turn.1 rest,
    )

-- ---- what is found stays

or_none : (o : Option Numbered) → option_or o None ≡ o
or_none None = refl
or_none (Some n) = refl

same_found : (j j' : Journal) (n : ℕ) → committed j' ≡ committed j → change_of j' n ≡ change_of j n
same_found j j' n same = ap (λ ns. option_map (λ (c : Numbered). c.change) (find (λ c. c.number == n) ns)) same

-- the changes so far are found by their numbers as before
same_change : (b : LedgerState) (k : ℕ) (request : Request) (n : ℕ) → n ≤ last_change b.events
    → change_of (posted b.events k (event_of b request)) n ≡ change_of b.events n
same_change b k (Commit p) n low =
    let it : Numbered = record { number = last_change b.events + 1; change = p.change } in
    let more = committed-Commit b.events k (last_change b.events + 1) p.change in
    let parts = find-append (λ (c : Numbered). c.number == n) (committed b.events) (it ∷ []) in
    let other : (last_change b.events + 1 == n) ≡ false = ne_eqb (last_change b.events + 1) n (λ e. omega arith) in
    ap (option_map (λ (c : Numbered). c.change))
    (ap (find (λ c. c.number == n)) more ∙ parts ∙ rw other (or_none (find (λ c. c.number == n) (committed b.events))))
same_change b k (Undo m) n low = same_found b.events (posted b.events k (event.undoing m)) n (committed-Undo b.events k m)
same_change b k (Redo m) n low = same_found b.events (posted b.events k (event.redoing m)) n (committed-Redo b.events k m)
same_change b k (Empty m) n low =
    let marks = marks_of (opening_after b (Empty m)) in
    same_found b.events (posted b.events k (event.emptying m marks)) n (committed-Empty b.events k m marks)

at_same : (j j' : Journal) (did : What) (n : ℕ) → change_of j' n ≡ change_of j n → outline_at j' did n ≡ outline_at j did n
at_same j j' did n same = ap (λ c. unwrap_or (option_map (outline_of did n) c) (empty_outline n)) same

-- so an event shows what it showed
same_outline : (j j' : Journal) (n : ℕ) (did : EventKind) → change_of j' n ≡ change_of j n → outline_by j' n did ≡ outline_by j n did
same_outline j j' n (kind.Commit c) same = refl
same_outline j j' n kind.Undo same = at_same j j' what.Undo n same
same_outline j j' n kind.Redo same = at_same j j' what.Redo n same
same_outline j j' n (kind.Empty marks) same = refl

-- and the event of a request shows what was asked and told of it
new_outline : (b : LedgerState) (k : ℕ) (request : Request)
    → outline_in (posted b.events k (event_of b request)) (event_of b request) ≡ event_outline b request
new_outline b k (Commit p) = refl
new_outline b k (Undo n) =
    let j = posted b.events k (event.undoing n) in at_same b.events j what.Undo n (same_found b.events j n (committed-Undo b.events k n))
new_outline b k (Redo n) =
    let j = posted b.events k (event.redoing n) in at_same b.events j what.Redo n (same_found b.events j n (committed-Redo b.events k n))
new_outline b k (Empty n) = refl

-- ---- sums

same_sum : (f g : Entry → ℕ) (p : Entry → Bool) (last : ℕ) (es : List Entry)
    → ((e : Entry) → e.event.number ≤ last → f e ≡ g e) → AllByRecursion (λ e. e.event.number ≤ last) es
    → sum_by f (filter p es) ≡ sum_by g (filter p es)
same_sum f g p last [] same low = refl
same_sum f g p last (e ∷ es) same low =
    chosen_or_not (p e) (same e low.0) (same_sum f g p last es same low.1)
  where
    chosen_or_not : (b : Bool) → f e ≡ g e → sum_by f (filter p es) ≡ sum_by g (filter p es)
        → sum_by f (cond b (e ∷ filter p es) (filter p es)) ≡ sum_by g (cond b (e ∷ filter p es) (filter p es))
    chosen_or_not true one rest =
        let left = sum_by-cons f e (filter p es) in
        let right = sum_by-cons g e (filter p es) in
        omega (arith, one, rest, left, right)
    chosen_or_not false one rest = rest

-- the last number is none below those before it
last_at : (k : ℕ) (es : List Entry) → AscendFrom k es → k ≤ fold (λ before e. e.at) k es
last_at k [] rise = omega arith
last_at k (e ∷ es) rise = omega (arith, rise.0, last_at e.at es rise.1)

-- no event comes after the last
none_after : (k : ℕ) (es : List Entry) (last : ℕ) → AscendFrom k es → fold (λ before e. e.at) k es ≤ last
    → filter (λ e. nat_lt last e.at) es ≡ []
none_after k [] last rise most = refl
none_after k (e ∷ es) last rise most =
    let low = last_at e.at es rise.1 in
    let out : nat_lt last e.at ≡ false = le-ltb last e.at (omega arith) in
    rw out (none_after e.at es last rise.1 most)

abbrev the_tally : List ℕ → Measure → ℕ → Tally
the_tally name measure total = record { name = name; measure = measure; total = total }

-- a watch that is armed now, behind the others, has the sum of no events
pub sums_armed : (j : Journal) (watches : List ArmedData) (tallies : List Tally) (watch : WatchData) → IsNumbered j → AreSums j watches tallies
    → AreSums j (watches ++ armed_at (length_of j) watch ∷ []) (tallies ++ untold watch ∷ [])
sums_armed j watches tallies watch numbered were =
    let none : count_since j (length_of j) watch.measure ≡ 0 =
    ap (sum_by (λ e. measure_of watch.measure (outline_in j e.event))) (none_after 0 j.entries (length_of j) numbered.events (omega arith)) in
    let same : untold watch ≡ sum_of j (armed_at (length_of j) watch) =
    ap (λ (n : ℕ). the_tally watch.name watch.measure n) (sym none) in (
      All-push (λ (w : ArmedData). w.since ≤ length_of j) watches (armed_at (length_of j) watch) were.0 (omega arith),
      ap (λ ts. ts ++ untold watch ∷ []) were.1
          ∙ ap (λ t. sums_of j watches ++ t ∷ []) same
          ∙ sym (map-append (sum_of j) watches (armed_at (length_of j) watch ∷ [])),
    )

-- one more event
module _ (b : LedgerState) (request : Request) (is : IsOpen b.opening b.events b.live) where
  abbrev after : Journal
  after = posted b.events (length_of b.events + 1) (event_of b request)

  longer : length_of after ≡ length_of b.events + 1
  longer = length_of-push b.events (length_of b.events + 1) (event_of b request)

  -- counts for what its outline tells
  one_more : (since : ℕ) (measure : Measure) → since ≤ length_of b.events
      → count_since after since measure ≡ count_since b.events since measure + measure_of measure (event_outline b request)
  one_more since measure low =
      let at = length_of b.events + 1 in
      let f : Entry → ℕ = λ x. measure_of measure (outline_in after x.event) in
      let g : Entry → ℕ = λ x. measure_of measure (outline_in b.events x.event) in
      let later : Entry → Bool = λ x. nat_lt since x.at in
      let new : Entry = record { at = at; event = event_of b request } in
      let in_time : nat_lt since at ≡ true = lt-ltb since at (omega arith) in
      let known = all_known (record { base = b.events.base; entries = [] }) b.events.entries (last_change b.events) is.legal (omega arith) in
      let before : sum_by f (filter later b.events.entries) ≡ sum_by g (filter later b.events.entries) =
      same_sum f g later (last_change b.events) b.events.entries
      (λ x within. ap (measure_of measure) (same_outline b.events after x.event.number x.event.kind (same_change b at request x.event.number within))) known in
      let one : filter later (new ∷ []) ≡ new ∷ [] = rw in_time refl in
      let parts : filter later after.entries ≡ filter later b.events.entries ++ new ∷ [] =
      filter-append later b.events.entries (new ∷ []) ∙ ap (λ xs. filter later b.events.entries ++ xs) one in
      let whole : sum_by f (filter later after.entries) ≡ sum_by f (filter later b.events.entries) + f new =
      ap (sum_by f) parts ∙ sum_by_push f (filter later b.events.entries) new in
      let told : f new ≡ measure_of measure (event_outline b request) = ap (measure_of measure) (new_outline b at request) in
      omega (arith, before, whole, told)

  all_more : (watches : List ArmedData) → All (λ (w : ArmedData). w.since ≤ length_of b.events) watches
      → sums_of after watches ≡ tallies_after (event_outline b request) (sums_of b.events watches)
  all_more [] low = refl
  all_more (w ∷ ws) low =
      let first : sum_of after w ≡ tally_after (event_outline b request) (sum_of b.events w) =
      ap (λ (n : ℕ). the_tally w.name w.measure n) (one_more w.since w.measure (low zero w (omega arith))) in
      let rest = all_more ws (λ k d within. low (suc k) d (omega arith)) in
      rw (first, rest) refl

  -- totals that are told of it stay the sums of the events since each watch was armed
  pub sums_told : (now : LedgerState) (watches : List ArmedData) (tallies : List Tally) → AreSums b.events watches tallies → now ≡ with_event b request
      → AreSums now.events watches (tallies_after (event_outline b request) tallies)
  sums_told now watches tallies were made =
      rw made (
        λ i w within. let low = were.0 i w within in omega (arith, low, longer),
        rw were.1 (sym (all_more watches were.0)),
      )
