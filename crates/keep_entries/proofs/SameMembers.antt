-- Members in order that are found among others, of which there are no more, are these others.
use Rattle.std.proofs.Common.{◌≡◌, ℕ, suc, ◌≤◌, true, List, [], ◌∷◌, map, length, String, Global, None, Some, Ordering, Less, Equal, Greater, refl, sym, ap, subst, ◌∙◌, arith}
use Rattle.std.proofs.lemmas.Bool.{eqb-true}
use Rattle.std.proofs.lemmas.Cmp.{nat_list_cmp_total}
use Rattle.std.proofs.lemmas.List.{length-map}
use Rattle.std.proofs.lemmas.Map.Text.{is_eq-slice_cmp}
use Rattle.std.proofs.lemmas.Slice.Eq.{bytes_eq-Decides}
use Rattle.std.specs.Cmp.Lexicographic.{slice_cmp}
use Rattle.std.specs.Ordering.{nat_cmp, match_ordering, ordering_reverse, is_eq}
use Rattle.serde_json.specs.Data.{Data, null, boolean, number, string, array, object, Members, no_members, member}
use Rattle.serde_json.specs.Find.{get, get_member}
use Rattle.serde_json.specs.View.{members_of, members_view, view}
use Rattle.serde_json.specs.declared.value.Value.{Value}
use Rattle.keep_docs.specs.Readable.{HasReadable, IsReadable, StandsBefore}
use Rattle.keep_docs.proofs.Built.{before_trans}
use Rattle.keep_entries.specs.Shape.{count_of, has_members}

-- each member is found among the others
abbrev pub AreFound : Members → Members → Type 0
AreFound all no_members = Unit {0}
AreFound all (member k d ms) = (get_member k all ≡ Some d) × AreFound all ms

same_key : (k l : List ℕ) → slice_cmp nat_cmp k l ≡ Equal → k ≡ l
same_key k l is = (bytes_eq-Decides k l).0 (sym (is_eq-slice_cmp k l) ∙ ap is_eq is)

-- what stands behind a key isn't found at it
found_behind : (k q : List ℕ) (d x : Data) (all : Members) → slice_cmp nat_cmp k q ≡ Less → get_member q (member k d all) ≡ Some x → get_member q all ≡ Some x
found_behind k q d x all less h =
    let greater : slice_cmp nat_cmp q k ≡ Greater = nat_list_cmp_total.antisymm q k ∙ ap ordering_reverse less in
    subst (λ (o : Ordering). match_ordering o (get_member q all) (Some d) (get_member q all) ≡ Some x) greater h

all_behind : (k : List ℕ) (d : Data) (all want : Members) → StandsBefore k want → AreFound (member k d all) want → AreFound all want
all_behind k d all no_members before h = tt
all_behind k d all (member q x want) before h = (found_behind k q d x all before.0 h.0, all_behind k d all want before.1 h.1)

-- a key before all others isn't found
not_found : (k : List ℕ) (all : Members) → StandsBefore k all → get_member k all ≡ None
not_found k no_members before = refl
not_found k (member l d all) before =
    ap (λ (o : Ordering). match_ordering o (get_member k all) (Some d) (get_member k all)) before.0 ∙ not_found k all before.1

none_found : (k : List ℕ) (d : Data) (all : Members) → StandsBefore k all → get_member k all ≡ Some d → ⊥
none_found k d all before h = let no : None ≡ Some d = sym (not_found k all before) ∙ h in cc

-- no more are found than there are
found_count : (want all : Members) → HasReadable want → HasReadable all → AreFound all want → count_of want ≤ count_of all
found_count no_members all h_want h_all found = omega arith
found_count (member k d want) no_members h_want h_all found = let no : None ≡ Some d = found.0 in cc
found_count (member k d want) (member l e all) h_want h_all found =
    by_order (slice_cmp nat_cmp k l) refl (found_count want all h_want.3 h_all.3) (found_count (member k d want) all h_want h_all.3)
  where
    by_order : (o : Ordering) → slice_cmp nat_cmp k l ≡ o → (AreFound all want → count_of want ≤ count_of all) → (AreFound all (member k d want) → suc (count_of want) ≤ count_of all)
        → suc (count_of want) ≤ suc (count_of all)
    by_order Less is fewer less_fewer = absurd (none_found k d (member l e all) (is, before_trans k l all is h_all.2) found.0)
    by_order Equal is fewer less_fewer =
        let before = subst (λ (q : List ℕ). StandsBefore q want) (same_key k l is) h_want.2 in
        let rest = fewer (all_behind l e all want before found.1) in
        omega (arith, rest)
    by_order Greater is fewer less_fewer =
        let less : slice_cmp nat_cmp l k ≡ Less = nat_list_cmp_total.antisymm l k ∙ ap ordering_reverse is in
        let rest = less_fewer (all_behind l e all (member k d want) (less, before_trans l k want less h_want.2) found) in
        omega (arith, rest)

same_members : (want all : Members) → HasReadable want → HasReadable all → count_of all ≡ count_of want → AreFound all want → all ≡ want
same_members no_members no_members h_want h_all count found = refl
same_members no_members (member l e all) h_want h_all count found = let no : suc (count_of all) ≡ 0 = count in absurd (omega (arith, no))
same_members (member k d want) no_members h_want h_all count found = let no : None ≡ Some d = found.0 in cc
same_members (member k d want) (member l e all) h_want h_all count found = by_order (slice_cmp nat_cmp k l) refl (same_members want all h_want.3 h_all.3)
  where
    by_order : (o : Ordering) → slice_cmp nat_cmp k l ≡ o → (count_of all ≡ count_of want → AreFound all want → all ≡ want) → member l e all ≡ member k d want
    by_order Less is rest_same = absurd (none_found k d (member l e all) (is, before_trans k l all is h_all.2) found.0)
    by_order Equal is rest_same =
        let same : k ≡ l = same_key k l is in
        let before = subst (λ (q : List ℕ). StandsBefore q want) same h_want.2 in
        let here : Some e ≡ Some d = subst (λ (o : Ordering). match_ordering o (get_member k all) (Some e) (get_member k all) ≡ Some d) is found.0 in
        let value : e ≡ d = cc in
        let rest = rest_same (omega (arith, count)) (all_behind l e all want before found.1) in
        rw (← same, value, rest)
    by_order Greater is rest_same =
        let less : slice_cmp nat_cmp l k ≡ Less = nat_list_cmp_total.antisymm l k ∙ ap ordering_reverse is in
        let more = found_count (member k d want) all h_want h_all.3 (all_behind l e all (member k d want) (less, before_trans l k want less h_want.2) found) in
        absurd (omega (arith, more, count))

-- each of the members is found in the value
abbrev pub HasFound : Data → Members → Type 0
HasFound d no_members = Unit {0}
HasFound d (member k x ms) = (get k d ≡ Some x) × HasFound d ms

found_in : (all want : Members) → HasFound (object all) want → AreFound all want
found_in all no_members h = tt
found_in all (member k d want) h = (h.0, found_in all want h.1)

-- a value that has these members, and no others, is the object of them
pub same_object : (d : Data) (want : Members) → IsReadable d → HasReadable want → has_members (count_of want) d ≡ true → HasFound d want → d ≡ object want
same_object null want h_d h_want size found = cc
same_object (boolean b) want h_d h_want size found = cc
same_object (number n) want h_d h_want size found = cc
same_object (string s) want h_d h_want size found = cc
same_object (array ds) want h_d h_want size found = cc
same_object (object all) want h_d h_want size found =
    ap object (same_members want all h_want h_d (eqb-true (count_of all) (count_of want) size) (found_in all want found))

-- how many members a map has
pub count_of-members_of : (ms : List (String Global × Data)) → count_of (members_of ms) ≡ length ms
count_of-members_of [] = refl
count_of-members_of (m ∷ ms) = ap suc (count_of-members_of ms)

pub count_of-members_view : (ms : List (String Global × Value)) → count_of (members_view ms) ≡ length ms
count_of-members_view ms = count_of-members_of (map (λ m. (m.0, view m.1)) ms) ∙ length-map ms (λ (m : String Global × Value). (m.0, view m.1))
