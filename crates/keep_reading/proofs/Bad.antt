-- Where nothing is wrong with any leaf, they are the entries of a journal, and where something is, there is no reading.
use Rattle.std.proofs.Common.{◌≡◌, ℕ, ◌<◌, ◌≤◌, Bool, true, false, ◌&&◌, not, cond, List, [], ◌∷◌, ◌++◌, map, Option, Some, None, refl, sym, ap, ◌∙◌, arith, subst, append-nil, append_assoc}
use Rattle.std.specs.List.{AllByRecursion}
use Rattle.std.proofs.lemmas.Bool.{leb-false, lt-leb, not_from_true, or_from, or_parts}
use Rattle.keep_journal.specs.History.{final_number, length_of, ComeInTurn, ComesNext, IsLegal}
use Rattle.keep_journal.specs.Journal.{Journal}
use Rattle.keep_journal.specs.declared.event.Entry as the_entry
use Rattle.keep_journal.specs.declared.event.Event.{Event}
use Rattle.keep_journal.proofs.Commits.{final_number-push, length_of-push, IsLegal-push}
use Rattle.keep_journal.specs.Lasting.{Follow, lasts, lasting_among}
use Rattle.keep_journal.proofs.Legal.{legal_numbered}
use Rattle.keep_journal.proofs.Telling.{final_told, told_with, told_without}
use Rattle.keep_shelf.specs.declared.key.Key.TheVariants.{Entry}
use Rattle.keep_moves.specs.Move.{Stand}
use Rattle.keep_reading.specs.Bad.{NoneIsBad, OneIsBad, first_bad, first_bad_after, fits_by, is_misfit, lasting_by}
use Rattle.keep_reading.specs.Leaves.{AreLeaves, IsLeaf, Tells, entries_of}
use Rattle.keep_reading.specs.Reads.{all_of, told}
use Rattle.keep_reading.specs.declared.leaf.Leaf.{Leaf}
use Rattle.keep_reading.proofs.Ascending.{Rises, all_found, rises_from_sorted}
use Rattle.keep_reading.proofs.Listed.{leaf_of, leaves_of_lists, lists_of_leaves}
use Rattle.keep_reading.proofs.Scan.{fits_from, fits_to, follow_push, none_told}

abbrev place_of : Leaf → ℕ
place_of leaf = leaf.at

abbrev leaf_made : ℕ → Option Event → Leaf
leaf_made k event = record { at = k; event = event }

abbrev entry_made : ℕ → Event → the_entry.Entry
entry_made k event = record { at = k; event = event }

abbrev journal_by : ℕ → List the_entry.Entry → Journal
journal_by f es = record { base = f; entries = es }

-- ---- one more entry

-- nothing is wrong with an event that follows, and fits if it is told
fine : (f : ℕ) (before : List the_entry.Entry) (e : Event) → final_number (all_of before) < e.number
    → (lasts f e ≡ true → fits_by (lasting_by f before) e.number e.kind ≡ true) → is_misfit f (final_number (all_of before)) (lasting_by f before) e ≡ false
fine f before e above fits = or_from _ _ (lt-leb e.number (final_number (all_of before)) above) (by (lasts f e) fits)
  where
    by : (b : Bool) → (b ≡ true → fits_by (lasting_by f before) e.number e.kind ≡ true) → (b && not (fits_by (lasting_by f before) e.number e.kind)) ≡ false
    by true so = not_from_true _ (so refl)
    by false so = refl

-- what is told with it is legal where it was, and no longer than its number
pub record IsOn (f at : ℕ) (es : List the_entry.Entry) : Type 0 where
  pub follow : Follow 0 es
  pub legal : IsLegal (lasting_by f es)
  pub long : length_of (lasting_by f es) ≤ at

pub on_next : (f low at : ℕ) (before : List the_entry.Entry) (e : Event) → IsOn f low before → low < at → is_misfit f (final_number (all_of before)) (lasting_by f before) e ≡ false → IsOn f at (before ++ entry_made at e ∷ [])
on_next f low at before e on above fine_here =
    let parts = or_parts _ _ fine_here in
    let up = leb-false e.number (final_number (all_of before)) parts.0 in
    by (lasts f e) refl (follow_push 0 before (entry_made at e) on.follow up) up parts.1
  where
    fitting : (b : Bool) → not b ≡ false → b ≡ true
    fitting true h = refl
    fitting false h = cc h

    by : (b : Bool) → lasts f e ≡ b → Follow 0 (before ++ entry_made at e ∷ []) → final_number (all_of before) < e.number
        → (b && not (fits_by (lasting_by f before) e.number e.kind)) ≡ false → IsOn f at (before ++ entry_made at e ∷ [])
    by true is follow up fit =
        let same : lasting_among f (before ++ entry_made at e ∷ []) ≡ lasting_among f before ++ entry_made at e ∷ [] = told_with f before (entry_made at e) is in
        let long = on.long in
        let next : ComesNext (lasting_by f before) (entry_made at e) = record {
          above = omega (arith, long, above);
          fits = fits_from f (final_number (all_of before)) (lasting_by f before) e (legal_numbered (lasting_by f before) on.legal) (final_told f before)
              (none_told f 0 before None on.follow) is up (fitting (fits_by (lasting_by f before) e.number e.kind) fit);
        } in
        record {
          follow = follow;
          legal = subst (λ (es : List the_entry.Entry). IsLegal (journal_by f es)) (sym same) (IsLegal-push (lasting_by f before) (entry_made at e) on.legal next);
          long = subst (λ (es : List the_entry.Entry). length_of (journal_by f es) ≤ at) (sym same) (subst (λ (n : ℕ). n ≤ at) (sym (length_of-push (lasting_by f before) at e)) (omega arith));
        }
    by false is follow up fit =
        let same : lasting_among f (before ++ entry_made at e ∷ []) ≡ lasting_among f before = told_without f before (entry_made at e) is in
        let long = on.long in
        record {
          follow = follow;
          legal = subst (λ (es : List the_entry.Entry). IsLegal (journal_by f es)) (sym same) on.legal;
          long = subst (λ (es : List the_entry.Entry). length_of (journal_by f es) ≤ at) (sym same) (omega (arith, long, above));
        }

-- ---- nothing is wrong

-- the leaves that are left are entries, and with them the journal goes on
record Clean (f : ℕ) (before : List the_entry.Entry) (leaves : List Leaf) : Type 0 where
  entries : leaves ≡ map leaf_of (entries_of leaves)
  follow : Follow 0 (before ++ entries_of leaves)
  legal : IsLegal (lasting_by f (before ++ entries_of leaves))

-- each leaf that has an event is above the number
abbrev pub AreAbove : ℕ → List Leaf → Type 0
AreAbove low leaves = AllByRecursion (λ leaf. (e : Event) → leaf.event ≡ Some e → low < leaf.at) leaves

pub above_from : (low : ℕ) (leaves : List Leaf) → AllByRecursion (λ leaf. low < leaf.at) leaves → AreAbove low leaves
above_from low [] all = tt
above_from low (leaf ∷ leaves) all = ((λ e is. all.0), above_from low leaves all.1)

not_refused : (b : Bool) (k : ℕ) (o : Option ℕ) → cond b (Some k) o ≡ None → (b ≡ false) × (o ≡ None)
not_refused true k o h = cc h
not_refused false k o h = (refl, h)

clean_step : (f low at : ℕ) (before : List the_entry.Entry) (o : Option Event) (leaves : List Leaf) → IsOn f low before
    → ((e : Event) → o ≡ Some e → low < at) → first_bad_after f before (leaf_made at o ∷ leaves) ≡ None
    → ((next : List the_entry.Entry) → IsOn f at next → first_bad_after f next leaves ≡ None → Clean f next leaves)
    → Clean f before (leaf_made at o ∷ leaves)
clean_step f low at before None leaves on above none rest = cc none
clean_step f low at before (Some e) leaves on above none rest =
    let x : the_entry.Entry = entry_made at e in
    let parts = not_refused (is_misfit f (final_number (all_of before)) (lasting_by f before) e) at (first_bad_after f (before ++ x ∷ []) leaves) none in
    let later = rest (before ++ x ∷ []) (on_next f low at before e on (above e refl) parts.0) parts.1 in
    let same = append_assoc before (x ∷ []) (entries_of leaves) in
    record {
      entries = ap (λ ls. leaf_made at (Some e) ∷ ls) later.entries;
      follow = subst (Follow 0) same later.follow;
      legal = subst (λ (es : List the_entry.Entry). IsLegal (lasting_by f es)) same later.legal;
    }

none_bad : (f low : ℕ) (before : List the_entry.Entry) (leaves : List Leaf) → Rises place_of leaves → AreAbove low leaves → IsOn f low before
    → first_bad_after f before leaves ≡ None → Clean f before leaves
none_bad f low before [] rises above on none = record {
  entries = refl;
  follow = subst (Follow 0) (sym (append-nil before)) on.follow;
  legal = subst (λ (es : List the_entry.Entry). IsLegal (lasting_by f es)) (sym (append-nil before)) on.legal;
}
none_bad f low before (leaf ∷ leaves) rises above on none =
    clean_step f low leaf.at before leaf.event leaves on above.0 none
    (λ next on_it none_later. none_bad f leaf.at next leaves rises.1 (above_from leaf.at leaves rises.0) on_it none_later)

-- an entry's number isn't 0
pub events_above : (stand : Stand) (leaves : List Leaf) → AreLeaves stand leaves → AreAbove 0 leaves
events_above stand leaves are =
    all_found place_of (λ leaf. (e : Event) → leaf.event ≡ Some e → 0 < leaf.at) leaves (rises_from_sorted place_of leaves are.ascend) (λ k leaf found.
    positive (stand (Entry k)) leaf (subst (λ (o : Option Leaf). IsLeaf (stand (Entry k)) o) found (are.each k)))
  where
    positive : (o : Option (List ℕ)) (leaf : Leaf) → IsLeaf o (Some leaf) → (e : Event) → leaf.event ≡ Some e → 0 < leaf.at
    positive None leaf is e has = absurd is
    positive (Some bytes) leaf is e has = (subst (Tells leaf.at bytes) has is).0.at

pub none_is_bad : NoneIsBad
none_is_bad stand leaves are none =
    let f = final_number (all_of (entries_of leaves)) in
    let clean = none_bad f 0 [] leaves (rises_from_sorted place_of leaves are.ascend) (events_above stand leaves are)
    (record { follow = tt; legal = tt; long = omega arith }) none in
    record {
      lists = lists_of_leaves stand leaves (entries_of leaves) are clean.entries;
      follow = clean.follow;
      legal = clean.legal;
    }

-- ---- a reading has nothing wrong

none_found : (f : ℕ) (before es : List the_entry.Entry) → Follow (final_number (all_of before)) es → ComeInTurn (lasting_by f before) (lasting_among f es)
    → first_bad_after f before (map leaf_of es) ≡ None
none_found f before [] follow come = refl
none_found f before (e ∷ es) follow come =
    by (lasts f e.event) refl come (none_found f (before ++ e ∷ []) es (subst (λ (n : ℕ). Follow n es) (sym (final_number-push (all_of before) e.at e.event)) follow.1))
  where
    by : (b : Bool) → lasts f e.event ≡ b → ComeInTurn (lasting_by f before) (cond b (e ∷ lasting_among f es) (lasting_among f es))
        → (ComeInTurn (lasting_by f (before ++ e ∷ [])) (lasting_among f es) → first_bad_after f (before ++ e ∷ []) (map leaf_of es) ≡ None)
        → first_bad_after f before (leaf_of e ∷ map leaf_of es) ≡ None
    by true is turn rest =
        let same : lasting_among f (before ++ e ∷ []) ≡ lasting_among f before ++ e ∷ [] = told_with f before e is in
        let right = fine f before e.event follow.0 (λ t. fits_to (lasting_by f before) e.event turn.0.fits) in
        ap (λ b. cond b (Some e.at) (first_bad_after f (before ++ e ∷ []) (map leaf_of es))) right
        ∙ rest (subst (λ (ds : List the_entry.Entry). ComeInTurn (journal_by f ds) (lasting_among f es)) (sym same) turn.1)
    by false is turn rest =
        let same : lasting_among f (before ++ e ∷ []) ≡ lasting_among f before = told_without f before e is in
        let right = fine f before e.event follow.0 (λ t. cc (is, t)) in
        ap (λ b. cond b (Some e.at) (first_bad_after f (before ++ e ∷ []) (map leaf_of es))) right
        ∙ rest (subst (λ (ds : List the_entry.Entry). ComeInTurn (journal_by f ds) (lasting_among f es)) (sym same) turn)

entries_back : (es : List the_entry.Entry) → entries_of (map leaf_of es) ≡ es
entries_back [] = refl
entries_back (e ∷ es) = ap (λ ds. e ∷ ds) (entries_back es)

pub one_is_bad : OneIsBad
one_is_bad stand leaves k o j are bad reads =
    let es = reads.entries in
    let same = leaves_of_lists stand leaves es are reads.lists in
    let legal : IsLegal (told es) = subst IsLegal reads.tells reads.is_open.legal in
    let none : first_bad (map leaf_of es) ≡ None =
    ap (λ ds. first_bad_after (final_number (all_of ds)) [] (map leaf_of es)) (entries_back es)
    ∙ none_found (final_number (all_of es)) [] es reads.follow legal in
    cc (bad, ap first_bad same, none)
