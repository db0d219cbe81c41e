-- A journal that is read leaf by leaf is what the leaves so far tell, until one is wrong.
use Rattle.std.proofs.Common.{◌≡◌, ℕ, ◌<◌, ◌≤◌, true, false, cond, List, [], ◌∷◌, ◌++◌, Option, Some, None, IfSome, refl, sym, ap, ◌∙◌, subst, append-nil, append_assoc, arith}
use Rattle.std.specs.List.{fold}
use Rattle.std.proofs.lemmas.Grind.{fold-append}
use Rattle.std.proofs.lemmas.List.Elements.{filter-append, filter_map-append}
use Rattle.keep_journal.specs.History.{final_after, final_number, last_marks, length_of}
use Rattle.keep_journal.specs.Journal.{Journal}
use Rattle.keep_journal.specs.declared.event.Entry as the_entry
use Rattle.keep_journal.specs.declared.event.Event.{Event}
use Rattle.keep_journal.specs.Lasting.{lasts}
use Rattle.keep_journal.proofs.Telling.{final_told}
use Rattle.keep_moves.specs.Move.{Stand}
use Rattle.keep_reading.specs.Bad.{first_bad_after, is_bad, is_wrong, lasting_by}
use Rattle.keep_reading.specs.Leaves.{AreLeaves, entries_of, entry_of}
use Rattle.keep_reading.specs.Reads.{all_of}
use Rattle.keep_reading.specs.declared.leaf.Leaf.{Leaf}
use Rattle.keep_reading.proofs.Ascending.{Rises, rises_from_sorted}
use Rattle.keep_reading.proofs.Bad.{AreAbove, IsOn, above_from, events_above, on_next}
use Rattle.keep_reading.proofs.Scan.{none_told}
use Rattle.keep_opening.specs.Telling.{CanCome, WasAppended, journal_after, top_after}

abbrev place_of : Leaf → ℕ
place_of leaf = leaf.at

abbrev leaf_made : ℕ → Option Event → Leaf
leaf_made k event = record { at = k; event = event }

abbrev journal_by : ℕ → List the_entry.Entry → Journal
journal_by f es = record { base = f; entries = es }

-- the leaves before the rest were right, and the journal has what they tell
pub record Goes (f : ℕ) (all rest : List Leaf) (j : Journal) (top : ℕ) : Type 0 where
  pub before : List the_entry.Entry
  pub low : ℕ
  pub journal : j ≡ lasting_by f before
  pub above : top ≡ final_number (all_of before)
  pub on : IsOn f low before
  pub rises : Rises place_of rest
  pub events : AreAbove low rest
  pub bad : first_bad_after f before rest ≡ first_bad_after f [] all
  pub entries : before ++ entries_of rest ≡ entries_of all

pub goes_first : (f : ℕ) (stand : Stand) (leaves : List Leaf) → AreLeaves stand leaves → Goes f leaves leaves (journal_by f []) 0
goes_first f stand leaves are = record {
  before = [];
  low = 0;
  journal = refl;
  above = refl;
  on = record { follow = tt; legal = tt; long = omega arith };
  rises = rises_from_sorted place_of leaves are.ascend;
  events = events_above stand leaves are;
  bad = refl;
  entries = refl;
}

-- the next leaf can come
pub next_comes : (f : ℕ) (all : List Leaf) (leaf : Leaf) (rest : List Leaf) (j : Journal) (top : ℕ) → Goes f all (leaf ∷ rest) j top → CanCome f top j leaf
next_comes f all leaf rest j top goes =
    let long = goes.on.long in
    record {
      final = ap final_number goes.journal ∙ final_told f goes.before;
      first = λ low. ap last_marks goes.journal ∙ none_told f 0 goes.before None goes.on.follow (subst (λ (n : ℕ). n < f) goes.above low);
      above = by leaf.event goes.events.0 (subst (λ (i : Journal). length_of i ≤ goes.low) (sym goes.journal) long);
    }
  where
    by : (o : Option Event) → ((e : Event) → o ≡ Some e → goes.low < leaf.at) → length_of j ≤ goes.low → IfSome o (λ e. length_of j < leaf.at)
    by None events long = tt
    by (Some e) events long = omega (arith, events e refl, long)

-- whether it is wrong is said of these entries
same_wrong : (f : ℕ) (all : List Leaf) (leaf : Leaf) (rest : List Leaf) (j : Journal) (top : ℕ) (goes : Goes f all (leaf ∷ rest) j top) → is_wrong f top j leaf ≡ is_bad f goes.before leaf
same_wrong f all leaf rest j top goes =
    ap (λ (i : Journal). is_wrong f top i leaf) goes.journal ∙ ap (λ (n : ℕ). is_wrong f n (lasting_by f goes.before) leaf) goes.above

on_right : (f low at : ℕ) (before : List the_entry.Entry) (o : Option Event) → IsOn f low before → ((e : Event) → o ≡ Some e → low < at)
    → is_bad f before (leaf_made at o) ≡ false → IsOn f at (before ++ entries_of (leaf_made at o ∷ []))
on_right f low at before None on events right = cc right
on_right f low at before (Some e) on events right = on_next f low at before e on (events e refl) right

pub goes_on : (f : ℕ) (all : List Leaf) (leaf : Leaf) (rest : List Leaf) (j : Journal) (top up : ℕ) (new : Journal)
    → Goes f all (leaf ∷ rest) j top → WasAppended f top j leaf up new → Goes f all rest new up
goes_on f all leaf rest j top up new goes taken =
    let es = entries_of (leaf ∷ []) in
    let right : is_bad f goes.before leaf ≡ false = sym (same_wrong f all leaf rest j top goes) ∙ taken.right in
    record {
      before = goes.before ++ es;
      low = leaf.at;
      journal = taken.journal ∙ ap (λ (i : Journal). journal_after f i leaf) goes.journal
          ∙ ap (journal_by f) (sym (filter-append (λ (e : the_entry.Entry). lasts f e.event) goes.before es));
      above = taken.above ∙ ap (λ (n : ℕ). top_after n leaf) goes.above
          ∙ sym (fold-append (λ (n : ℕ) (e : the_entry.Entry). final_after n e.event) 0 goes.before es);
      on = on_right f goes.low leaf.at goes.before leaf.event goes.on goes.events.0 right;
      rises = goes.rises.1;
      events = above_from leaf.at rest goes.rises.0;
      bad = sym (ap (λ b. cond b (Some leaf.at) (first_bad_after f (goes.before ++ es) rest)) right) ∙ goes.bad;
      entries = append_assoc goes.before es (entries_of rest) ∙ ap (λ ds. goes.before ++ ds) (sym (filter_map-append entry_of (leaf ∷ []) rest)) ∙ goes.entries;
    }

pub goes_wrong : (f : ℕ) (all : List Leaf) (leaf : Leaf) (rest : List Leaf) (j : Journal) (top : ℕ) → Goes f all (leaf ∷ rest) j top
    → is_wrong f top j leaf ≡ true → first_bad_after f [] all ≡ Some leaf.at
goes_wrong f all leaf rest j top goes wrong =
    sym goes.bad ∙ ap (λ b. cond b (Some leaf.at) (first_bad_after f (goes.before ++ entries_of (leaf ∷ [])) rest)) (sym (same_wrong f all leaf rest j top goes) ∙ wrong)

pub goes_last : (f : ℕ) (all : List Leaf) (j : Journal) (top : ℕ) → Goes f all [] j top → (j ≡ lasting_by f (entries_of all)) × (first_bad_after f [] all ≡ None)
goes_last f all j top goes = (
  goes.journal ∙ ap (lasting_by f) (sym (append-nil goes.before) ∙ goes.entries),
  sym goes.bad,
)

-- one leaf more makes of the number what the leaf does and then the others
pub final_step : (number : ℕ) (leaf : Leaf) (leaves : List Leaf)
    → fold (λ (n : ℕ) (e : the_entry.Entry). final_after n e.event) (top_after number leaf) (entries_of leaves)
    ≡ fold (λ (n : ℕ) (e : the_entry.Entry). final_after n e.event) number (entries_of (leaf ∷ leaves))
final_step number leaf leaves =
    sym (ap (λ ds. fold (λ (n : ℕ) (e : the_entry.Entry). final_after n e.event) number ds) (filter_map-append entry_of (leaf ∷ []) leaves)
    ∙ fold-append (λ (n : ℕ) (e : the_entry.Entry). final_after n e.event) number (entries_of (leaf ∷ [])) (entries_of leaves))
