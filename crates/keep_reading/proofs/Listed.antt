-- The entries of a shelf and its leaves are told by what stands there.
use Rattle.std.proofs.Common.{◌≡◌, ℕ, ◌<◌, List, [], ◌∷◌, map, Option, Some, None, refl, sym, ap, ap₂, ◌∙◌, subst, arith}
use Rattle.std.specs.List.{AllByRecursion}
use Rattle.std.specs.Option.{option_map}
use Rattle.keep_journal.specs.History.{AscendFrom}
use Rattle.keep_journal.specs.declared.event.Entry as the_entry
use Rattle.keep_journal.specs.declared.event.Event.{Event}
use Rattle.keep_journal.specs.Lasting.{entry_at}
use Rattle.keep_shelf.specs.declared.key.Key.TheVariants.{Entry}
use Rattle.keep_entries.specs.Entry.{IsEntry, Spells}
use Rattle.keep_entries.proofs.Telling.{one_event}
use Rattle.keep_moves.specs.Move.{Stand}
use Rattle.keep_reading.specs.Leaves.{AreLeaves, IsLeaf, Tells, leaf_at}
use Rattle.keep_reading.specs.Lists.{IsListed, Lists}
use Rattle.keep_reading.specs.declared.leaf.Leaf.{Leaf}
use Rattle.keep_reading.proofs.Ascending.{Rises, all_found, found_holds, found_map, found_number, rises_from_sorted, rises_map, same_by_number}

abbrev number_of : the_entry.Entry → ℕ
number_of e = e.at

abbrev place_of : Leaf → ℕ
place_of leaf = leaf.at

-- ---- entries that ascend

all_above : (k : ℕ) (es : List the_entry.Entry) → AscendFrom k es → AllByRecursion (λ e. k < e.at) es
all_above k [] h = tt
all_above k (e ∷ es) h = (h.0, weaker k e.at es h.0 (all_above e.at es h.1))
  where
    weaker : (a b : ℕ) (ds : List the_entry.Entry) → a < b → AllByRecursion (λ d. b < d.at) ds → AllByRecursion (λ d. a < d.at) ds
    weaker a b [] lt all = tt
    weaker a b (d ∷ ds) lt all = (omega (arith, all.0), weaker a b ds lt all.1)

pub rises_from_ascent : (k : ℕ) (es : List the_entry.Entry) → AscendFrom k es → Rises number_of es
rises_from_ascent k [] h = tt
rises_from_ascent k (e ∷ es) h = (all_above e.at es h.1, rises_from_ascent e.at es h.1)

ascent_from_rises : (k : ℕ) (es : List the_entry.Entry) → AllByRecursion (λ e. k < e.at) es → Rises number_of es → AscendFrom k es
ascent_from_rises k [] above rises = tt
ascent_from_rises k (e ∷ es) above rises = (above.0, ascent_from_rises e.at es rises.0 rises.1)

-- ---- an entry is told by its bytes

same_event : (bytes : List ℕ) (d e : the_entry.Entry) → IsEntry d → IsEntry e → Spells bytes d.event → Spells bytes e.event → d.event ≡ e.event
same_event bytes d e is_d is_e spells_d spells_e = one_event bytes d.event e.event is_d.fits is_e.fits spells_d spells_e

abbrev entry_made : ℕ → Event → the_entry.Entry
entry_made k event = record { at = k; event = event }

same_entry : (d e : the_entry.Entry) → d.at ≡ e.at → d.event ≡ e.event → d ≡ e
same_entry d e at event = ap₂ entry_made at event

-- the entry that is found under a number
entry_found : (es : List the_entry.Entry) (k : ℕ) (e : the_entry.Entry) → AllByRecursion IsEntry es → entry_at es k ≡ Some e → IsEntry e × (e.at ≡ k)
entry_found es k e each found = (found_holds number_of IsEntry es k e each found, found_number number_of es k e found)

pub lists_same : (stand : Stand) (ds es : List the_entry.Entry) → Lists stand ds → Lists stand es → ds ≡ es
lists_same stand ds es ld le =
    same_by_number number_of ds es (rises_from_ascent 0 ds ld.ascending) (rises_from_ascent 0 es le.ascending) (λ k.
    by k (stand (Entry k)) (entry_at ds k) (entry_at es k) (ld.listed k) (le.listed k)
    (λ d found. entry_found ds k d ld.each found) (λ e found. entry_found es k e le.each found))
  where
    by : (k : ℕ) (o : Option (List ℕ)) (a b : Option the_entry.Entry) → IsListed o a → IsListed o b
        → ((d : the_entry.Entry) → a ≡ Some d → IsEntry d × (d.at ≡ k)) → ((e : the_entry.Entry) → b ≡ Some e → IsEntry e × (e.at ≡ k)) → a ≡ b
    by k None None None p q fa fb = refl
    by k None None (Some e) p q fa fb = absurd q
    by k None (Some d) b p q fa fb = absurd p
    by k (Some bytes) None b p q fa fb = absurd p
    by k (Some bytes) (Some d) None p q fa fb = absurd q
    by k (Some bytes) (Some d) (Some e) p q fa fb =
        let left = fa d refl in
        let right = fb e refl in
        ap Some (same_entry d e (left.1 ∙ sym right.1) (same_event bytes d e left.0 right.0 p q))

-- ---- leaves that are entries

abbrev pub leaf_of : the_entry.Entry → Leaf
leaf_of e = record { at = e.at; event = Some e.event }

abbrev leaf_made : ℕ → Option Event → Leaf
leaf_made k event = record { at = k; event = event }

same_leaf : (a b : Leaf) → a.at ≡ b.at → a.event ≡ b.event → a ≡ b
same_leaf a b at event = ap₂ leaf_made at event

-- where what stands there lists entries, the leaves are these
pub leaves_of_lists : (stand : Stand) (leaves : List Leaf) (es : List the_entry.Entry) → AreLeaves stand leaves → Lists stand es → leaves ≡ map leaf_of es
leaves_of_lists stand leaves es are lists =
    let rises = rises_from_ascent 0 es lists.ascending in
    same_by_number place_of leaves (map leaf_of es) (rises_from_sorted place_of leaves are.ascend) (rises_map place_of number_of leaf_of (λ e. refl) es rises) (λ k.
    by k (stand (Entry k)) (leaf_at leaves k) (entry_at es k) (are.each k) (lists.listed k)
    (λ leaf found. found_number place_of leaves k leaf found) (λ e found. entry_found es k e lists.each found)
    ∙ sym (found_map place_of number_of leaf_of (λ e. refl) es k))
  where
    told : (k : ℕ) (bytes : List ℕ) (o : Option Event) (e : the_entry.Entry) → k ≡ e.at → IsEntry e → Tells k bytes o → Spells bytes e.event → o ≡ Some e.event
    told k bytes None e at is tells spells =
        let same : IsEntry (entry_made k e.event) = subst (λ (n : ℕ). IsEntry (entry_made n e.event)) (sym at) is in
        absurd (tells e.event same spells)
    told k bytes (Some event) e at is tells spells = ap Some (same_event bytes (entry_made k event) e tells.0 is tells.1 spells)

    by : (k : ℕ) (o : Option (List ℕ)) (a : Option Leaf) (b : Option the_entry.Entry) → IsLeaf o a → IsListed o b
        → ((leaf : Leaf) → a ≡ Some leaf → leaf.at ≡ k) → ((e : the_entry.Entry) → b ≡ Some e → IsEntry e × (e.at ≡ k)) → a ≡ option_map leaf_of b
    by k None None None p q fa fb = refl
    by k None None (Some e) p q fa fb = absurd q
    by k None (Some leaf) b p q fa fb = absurd p
    by k (Some bytes) None b p q fa fb = absurd p
    by k (Some bytes) (Some leaf) None p q fa fb = absurd q
    by k (Some bytes) (Some leaf) (Some e) p q fa fb =
        let at : leaf.at ≡ e.at = fa leaf refl ∙ sym (fb e refl).1 in
        ap Some (same_leaf leaf (leaf_of e) at (told leaf.at bytes leaf.event e at (fb e refl).0 p q))

-- and where each leaf is an entry, these are listed
pub lists_of_leaves : (stand : Stand) (leaves : List Leaf) (es : List the_entry.Entry) → AreLeaves stand leaves → leaves ≡ map leaf_of es → Lists stand es
lists_of_leaves stand leaves es are same =
    let rises = rises_back es (subst (Rises place_of) same (rises_from_sorted place_of leaves are.ascend)) in
    let each = all_found number_of IsEntry es rises (λ k e found. entry k (stand (Entry k)) e (found_number number_of es k e found)
    (subst (λ (o : Option Leaf). IsLeaf (stand (Entry k)) o) (at k ∙ ap (option_map leaf_of) found) (are.each k))) in
    record {
      each = each;
      ascending = ascent_from_rises 0 es (positive es each) rises;
      listed = λ k. listed (stand (Entry k)) (entry_at es k) (subst (λ (o : Option Leaf). IsLeaf (stand (Entry k)) o) (at k) (are.each k));
    }
  where
    at : (k : ℕ) → leaf_at leaves k ≡ option_map leaf_of (entry_at es k)
    at k = ap (λ ls. leaf_at ls k) same ∙ found_map place_of number_of leaf_of (λ e. refl) es k

    rises_back : (ds : List the_entry.Entry) → Rises place_of (map leaf_of ds) → Rises number_of ds
    rises_back [] h = tt
    rises_back (d ∷ ds) h = (above d.at ds h.0, rises_back ds h.1)
      where
        above : (b : ℕ) (xs : List the_entry.Entry) → AllByRecursion (λ leaf. b < leaf.at) (map leaf_of xs) → AllByRecursion (λ x. b < x.at) xs
        above b [] all = tt
        above b (x ∷ xs) all = (all.0, above b xs all.1)

    entry : (k : ℕ) (o : Option (List ℕ)) (e : the_entry.Entry) → e.at ≡ k → IsLeaf o (Some (leaf_of e)) → IsEntry e
    entry k None e number is = absurd is
    entry k (Some bytes) e number is = is.0

    positive : (ds : List the_entry.Entry) → AllByRecursion IsEntry ds → AllByRecursion (λ d. 0 < d.at) ds
    positive [] all = tt
    positive (d ∷ ds) all = (all.0.at, positive ds all.1)

    listed : (o : Option (List ℕ)) (b : Option the_entry.Entry) → IsLeaf o (option_map leaf_of b) → IsListed o b
    listed None None is = tt
    listed None (Some e) is = absurd is
    listed (Some bytes) None is = absurd is
    listed (Some bytes) (Some e) is = is.1
