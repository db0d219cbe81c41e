-- What a change that is met finds and leaves, facet by facet, is as its lists say.
use Rattle.std.proofs.Common.{◌≡◌, ◌≤◌, Bool, true, false, not, cond, List, [], ◌∷◌, map, ◌⊎◌, inl, inr, count_by, sym, ap, ◌∙◌, arith, subst}
use Rattle.std.specs.List.{list_all, list_any}
use Rattle.std.proofs.lemmas.Bool.{and_parts, or_cases, or_left, or_right}
use Rattle.std.proofs.lemmas.List.Folds.{list_all-append}
use Rattle.std.proofs.lemmas.List.Sums.{sum_by-append}
use Rattle.keep_repo.proofs.Orders.{facet_eq_same}
use Rattle.keep_repo.specs.Facet.{facet_eq}
use Rattle.keep_repo.specs.Repository.{Repository, held, is_filled}
use Rattle.keep_repo.specs.declared.facet.Facet.{Facet}
use Rattle.keep_repo.specs.declared.facet.Facet.TheVariants.{File, Mark}
use Rattle.keep_change.specs.Change.{Holding, asked, file_asked, is_as_asked, is_met, mark_asked, written}
use Rattle.keep_change.specs.Filling.{FacetsFollow, asks_empty, asks_filled, empties, fills}
use Rattle.keep_change.specs.Form.{HasNoFacetTwice}
use Rattle.keep_change.specs.Result.{result_of}
use Rattle.keep_change.specs.Touch.{written_facets}
use Rattle.keep_change.specs.declared.change.Change.{Change}
use Rattle.keep_change.proofs.Carry.{some_times}
use Rattle.keep_change.proofs.Filling.{Became, as_it_was, asks_empty_either, asks_filled_either, became, empty_now, filled_now, in_either_facets, unwritten}
use Rattle.keep_change.proofs.Least.{empty_unmet}
use Rattle.keep_change.proofs.Touching.{list_any-asked}
use Rattle.keep_change.proofs.Records.{RecordAt, a_record, no_record, none_of_count, record_at}

-- ---- what is asked of a facet

-- a facet that is asked for is as all these are asked to be
asked_one : {K : Type 0} (h : Holding) (filled : Bool) (facet_of : K → Facet) (ks : List K) (q : Facet) → list_all (is_as_asked h) (map (λ k. record { facet = facet_of k; filled = filled }) ks) ≡ true → list_any (facet_eq q) (map facet_of ks) ≡ true → is_as_asked h (record { facet = q; filled = filled }) ≡ true
asked_one h filled facet_of [] q all one = cc one
asked_one h filled facet_of (k ∷ ks) q all one =
    split (asked_one h filled facet_of ks q (and_parts _ _ all).1) (or_cases _ _ one)
  where
    split : (list_any (facet_eq q) (map facet_of ks) ≡ true → is_as_asked h (record { facet = q; filled = filled }) ≡ true) → (facet_eq q (facet_of k) ≡ true) ⊎ (list_any (facet_eq q) (map facet_of ks) ≡ true) → is_as_asked h (record { facet = q; filled = filled }) ≡ true
    split rest (inl same) =
        subst (λ f. is_as_asked h (record { facet = f; filled = filled }) ≡ true) (sym (facet_eq_same q (facet_of k) same)) (and_parts _ _ all).0
    split rest (inr later) = rest later

module _ (c : Change) where
  -- each of the four lists is as asked where all of them are
  list_by_list : (h : Holding) → list_all (is_as_asked h) (asked c) ≡ true → (list_all (is_as_asked h) (map (file_asked true) c.present) ≡ true) × (list_all (is_as_asked h) (map (file_asked false) c.absent) ≡ true) × (list_all (is_as_asked h) (map (mark_asked true) c.marked) ≡ true) × (list_all (is_as_asked h) (map (mark_asked false) c.unmarked) ≡ true)
  list_by_list h all =
      let first = and_parts _ _ (sym (list_all-append (is_as_asked h) (map (file_asked true) c.present) _) ∙ all) in
      let second = and_parts _ _ (sym (list_all-append (is_as_asked h) (map (file_asked false) c.absent) _) ∙ first.1) in
      let third = and_parts _ _ (sym (list_all-append (is_as_asked h) (map (mark_asked true) c.marked) _) ∙ second.1) in
      (first.0, second.0, third.0, third.1)

  -- a facet that is only looked at isn't written
  not_written : HasNoFacetTwice c → (q : Facet) → list_any (facet_eq q) (map (λ a. a.facet) (asked c)) ≡ true → list_any (facet_eq q) (written_facets c) ≡ false
  not_written once q looked =
      let times : 1 ≤ count_by (facet_eq q) (map (λ a. a.facet) (asked c)) =
      some_times (facet_eq q) (map (λ a. a.facet) (asked c)) looked in
      none_of_count (facet_eq q) (written_facets c)
      (omega (arith, once q, times, sum_by-append (λ x. cond (facet_eq q x) 1 0) (written_facets c) (map (λ a. a.facet) (asked c))))

-- a test before a change, and after it
abbrev BeforeAndAfter : Change → Repository → Facet → Bool → Type 0
BeforeAndAfter c r q filled = (is_filled r q ≡ filled) × (is_filled (result_of c r) q ≡ filled)

module _ (c : Change) (r : Repository) (once : HasNoFacetTwice c) (met : is_met (held r) c ≡ true) (q : Facet) where
  -- a facet that isn't written is as it was
  stays_as_it_is : (filled : Bool) → is_filled r q ≡ filled → list_any (facet_eq q) (written_facets c) ≡ false → BeforeAndAfter c r q filled
  stays_as_it_is filled is apart = (is, by_record (record_at (written c) q) ∙ is) where
    by_record : RecordAt (written c) q → is_filled (result_of c r) q ≡ is_filled r q
    by_record (no_record n a) = unwritten c r once q n
    by_record (a_record w n a same) = cc (a, apart)

  -- what has to be filled is filled, before and after
  asked_filled : asks_filled c q ≡ true → BeforeAndAfter c r q true
  asked_filled asks = split (or_cases _ _ (sym (asks_filled_either c q ∙ in_either_facets c.present c.marked q) ∙ asks)) where
    split : (list_any (facet_eq q) (map File c.present) ≡ true) ⊎ (list_any (facet_eq q) (map Mark c.marked) ≡ true) → BeforeAndAfter c r q true
    split (inl file) = stays_as_it_is true
        (asked_one (held r) true File c.present q (list_by_list c (held r) (and_parts _ _ met).1).0 file)
        (not_written c once q (list_any-asked (facet_eq q) c ∙ or_left _ _ file))
    split (inr mark) = stays_as_it_is true
        (asked_one (held r) true Mark c.marked q (list_by_list c (held r) (and_parts _ _ met).1).2 mark)
        (not_written c once q (list_any-asked (facet_eq q) c ∙ or_right _ _ (or_right _ _ (or_left _ _ mark))))

  -- and what has to be empty is empty
  asked_empty : asks_empty c q ≡ true → BeforeAndAfter c r q false
  asked_empty asks = split (or_cases _ _ (sym (asks_empty_either c q ∙ in_either_facets c.absent c.unmarked q) ∙ asks)) where
    split : (list_any (facet_eq q) (map File c.absent) ≡ true) ⊎ (list_any (facet_eq q) (map Mark c.unmarked) ≡ true) → BeforeAndAfter c r q false
    split (inl file) = stays_as_it_is false
        (sym (empty_unmet (held r q)) ∙ ap not (asked_one (held r) false File c.absent q (list_by_list c (held r) (and_parts _ _ met).1).1 file))
        (not_written c once q (list_any-asked (facet_eq q) c ∙ or_right _ _ (or_left _ _ file)))
    split (inr mark) = stays_as_it_is false
        (sym (empty_unmet (held r q)) ∙ ap not (asked_one (held r) false Mark c.unmarked q (list_by_list c (held r) (and_parts _ _ met).1).3 mark))
        (not_written c once q (list_any-asked (facet_eq q) c ∙ or_right (list_any (facet_eq q) (map File c.present)) _ (or_right (list_any (facet_eq q) (map File c.absent)) _ (or_right (list_any (facet_eq q) (map Mark c.marked)) _ mark))))

-- ---- the law

-- what a facet has become, read off one of its tests
module _ {empty fill before after : Bool} where
  filled_before : Became empty fill before after → empty ≡ true → before ≡ true
  filled_before (as_it_was e f a) h = cc (e, h)
  filled_before (filled_now e f b a) h = cc (e, h)
  filled_before (empty_now e f b a) h = b

  filled_after : Became empty fill before after → fill ≡ true → after ≡ true
  filled_after (as_it_was e f a) h = cc (f, h)
  filled_after (filled_now e f b a) h = a
  filled_after (empty_now e f b a) h = cc (f, h)

  empty_after : Became empty fill before after → empty ≡ true → after ≡ false
  empty_after (as_it_was e f a) h = cc (e, h)
  empty_after (filled_now e f b a) h = cc (e, h)
  empty_after (empty_now e f b a) h = a

  stays_filled : Became empty fill before after → before ≡ true → empty ≡ false → after ≡ true
  stays_filled (as_it_was e f a) b h = a ∙ b
  stays_filled (filled_now e f _ a) b h = a
  stays_filled (empty_now e f _ a) b h = cc (e, h)

  newly_filled : Became empty fill before after → before ≡ false → after ≡ true → fill ≡ true
  newly_filled (as_it_was e f a) b h = cc (a, b, h)
  newly_filled (filled_now e f _ a) b h = f
  newly_filled (empty_now e f _ a) b h = cc (a, h)

module _ (c : Change) (r : Repository) (once : HasNoFacetTwice c) (met : is_met (held r) c ≡ true) (q : Facet) where
  -- each of these has two reasons: the facet is written, or it is only looked at
  found_as_listed : (empties c q ≡ true) ⊎ (asks_filled c q ≡ true) → is_filled r q ≡ true
  found_as_listed (inl emptied) = filled_before (became c r once met q) emptied
  found_as_listed (inr asked) = (asked_filled c r once met q asked).0

  left_as_listed : (fills c q ≡ true) ⊎ (asks_filled c q ≡ true) → is_filled (result_of c r) q ≡ true
  left_as_listed (inl filled) = filled_after (became c r once met q) filled
  left_as_listed (inr asked) = (asked_filled c r once met q asked).1

  emptied_as_listed : (empties c q ≡ true) ⊎ (asks_empty c q ≡ true) → is_filled (result_of c r) q ≡ false
  emptied_as_listed (inl emptied) = empty_after (became c r once met q) emptied
  emptied_as_listed (inr asked) = (asked_empty c r once met q asked).1

pub facets_follow_lem : FacetsFollow
facets_follow_lem c r once met = record {
  found = λ q h. found_as_listed c r once met q (or_cases _ _ h);
  absent = λ q h. (asked_empty c r once met q h).0;
  left = λ q h. left_as_listed c r once met q (or_cases _ _ h);
  emptied = λ q h. emptied_as_listed c r once met q (or_cases _ _ h);
  stays = λ q. stays_filled (became c r once met q);
  new = λ q. newly_filled (became c r once met q);
}
