-- What a change finds at its place where no later change touches what it touches: the live repository tells it alone.
use Rattle.std.proofs.Common.{◌≡◌, ℕ, Bool, true, false, ◌&&◌, ◌||◌, cond, List, [], ◌∷◌, map, Option, Some, None, if◌then◌else◌, refl, sym, ap, ◌∙◌}
use Rattle.std.proofs.lemmas.Bool.{or_left, or_right}
use Rattle.std.proofs.lemmas.List.Folds.{list_any-append}
use Rattle.std.specs.List.{find, list_all, list_any}
use Rattle.std.specs.Option.{is_none, is_some, option_and_then, option_map}
use Rattle.keep_repo.specs.Facet.{facet_eq}
use Rattle.keep_repo.specs.Repository.{Repository, held}
use Rattle.keep_repo.specs.declared.facet.Facet.{Facet}
use Rattle.keep_change.specs.Change.{asked, holds_same, is_as_asked, is_as_written, is_met, written, Holding}
use Rattle.keep_change.specs.Fold.{first_leaning, Numbered}
use Rattle.keep_change.specs.Holdings.{value_at}
use Rattle.keep_change.specs.Touch.{leans_on, touches, writes, written_facets}
use Rattle.keep_change.specs.declared.change.Change.{Change}
use Rattle.keep_change.proofs.Records.{RecordAt, a_record, no_record, or_first, or_neither, record_at, same_facet}
use Rattle.keep_journal.specs.History.{change_of}
use Rattle.keep_journal.specs.Journal.{Journal}
use Rattle.keep_journal.specs.Kept.{later}
use Rattle.keep_touch.specs.Finding.{first_toucher, StandsAlone}
use Rattle.keep_ledger.specs.Dependents.{blocked_at, leaned_on}

-- ---- where none touches a facet

-- the first of them doesn't, nor do the others
none_touches : (q : Facet) (n : Numbered) (ns : List Numbered) → first_toucher q (n ∷ ns) ≡ None → (touches n.change q ≡ false) × (first_toucher q ns ≡ None)
none_touches q n ns none = one (touches n.change q) none
  where
    one : (b : Bool) → option_map (λ m. m.number) (cond b (Some n) (find (λ m. touches m.change q) ns)) ≡ None → (b ≡ false) × (first_toucher q ns ≡ None)
    one true is = cc is
    one false is = (refl, is)

-- it held before them what it holds after them
value_kept : (ns : List Numbered) (end : Holding) (q : Facet) → first_toucher q ns ≡ None → value_at ns end q ≡ end q
value_kept [] end q none = refl
value_kept (n ∷ ns) end q none =
    let apart = none_touches q n ns none in
    by_record (sym (list_any-append (facet_eq q) (written_facets n.change) (map (λ a. a.facet) (asked n.change))) ∙ apart.0)
    (record_at (written n.change) q) (value_kept ns end q apart.1)
  where
    by_record : (writes n.change q || list_any (facet_eq q) (map (λ a. a.facet) (asked n.change))) ≡ false → RecordAt (written n.change) q
        → value_at ns end q ≡ end q → value_at (n ∷ ns) end q ≡ end q
    by_record apart (no_record unfound outside) rest = rw unfound rest
    by_record apart (a_record w found there at) rest = cc (or_first (writes n.change q) _ apart, there)

-- ---- tests of the facets of a list

-- a facet of a list is among them
among : (f : Facet) (fs : List Facet) → list_any (facet_eq f) (f ∷ fs) ≡ true
among f fs = or_left (facet_eq f f) _ ((same_facet f f).1 refl)

none_of : (p : Facet → Bool) (fs : List Facet) → ((f : Facet) → list_any (facet_eq f) fs ≡ true → p f ≡ false) → list_any p fs ≡ false
none_of p [] fails = refl
none_of p (f ∷ fs) fails =
    or_neither (p f) (list_any p fs) (fails f (among f fs)) (none_of p fs (λ g there. fails g (or_right (facet_eq g f) _ there)))

same_all : {X : Type 0} (facet_of : X → Facet) (p r : X → Bool) (xs : List X)
    → ((x : X) → list_any (facet_eq (facet_of x)) (map facet_of xs) ≡ true → p x ≡ r x) → list_all p xs ≡ list_all r xs
same_all facet_of p r [] same = refl
same_all facet_of p r (x ∷ xs) same =
    ap (λ b. b && list_all p xs) (same x (among (facet_of x) (map facet_of xs)))
    ∙ ap (λ b. r x && b) (same_all facet_of p r xs (λ y there. same y (or_right (facet_eq (facet_of y) (facet_of x)) _ there)))

-- ---- a change, where none of these touches what it touches

module _ (c : Change) where
  written_touched : (q : Facet) → list_any (facet_eq q) (written_facets c) ≡ true → touches c q ≡ true
  written_touched q there = list_any-append (facet_eq q) (written_facets c) (map (λ a. a.facet) (asked c)) ∙ or_left _ _ there

  asked_touched : (q : Facet) → list_any (facet_eq q) (map (λ a. a.facet) (asked c)) ≡ true → touches c q ≡ true
  asked_touched q there = list_any-append (facet_eq q) (written_facets c) (map (λ a. a.facet) (asked c)) ∙ or_right (writes c q) _ there

  -- it is met alike where its facets hold the same
  met_alike : (g h : Holding) → ((q : Facet) → touches c q ≡ true → g q ≡ h q) → is_met g c ≡ is_met h c
  met_alike g h same =
      let ready = same_all (λ w. w.facet) (is_as_written g) (is_as_written h) (written c)
      (λ w there. ap (λ o. holds_same o w.before) (same w.facet (written_touched w.facet there))) in
      let looked = same_all (λ a. a.facet) (is_as_asked g) (is_as_asked h) (asked c)
      (λ a there. ap (λ o. if a.filled then is_some o else is_none o) (same a.facet (asked_touched a.facet there))) in
      ap (λ b. b && list_all (is_as_asked g) (asked c)) ready ∙ ap (λ b. list_all (is_as_written h) (written c) && b) looked

  none_leans : (ns : List Numbered) → ((q : Facet) → touches c q ≡ true → first_toucher q ns ≡ None) → first_leaning c ns ≡ None
  none_leans [] apart = refl
  none_leans (n ∷ ns) apart =
      let fails : leans_on n.change c ≡ false = none_of (touches n.change) (written_facets c) (λ q there. (none_touches q n ns (apart q (written_touched q there))).0) in
      ap (λ b. option_map (λ (m : Numbered). m.number) (cond b (Some n) (find (λ m. leans_on m.change c) ns))) fails
      ∙ none_leans ns (λ q touched. (none_touches q n ns (apart q touched)).1)

-- ---- a change of a journal that stands alone

pub alone_leaned : (j : Journal) (n : ℕ) → StandsAlone j n → leaned_on j n ≡ None
alone_leaned j n alone = one (change_of j n) refl
  where
    one : (o : Option Change) → change_of j n ≡ o → option_and_then (λ c. first_leaning c (later j n)) o ≡ None
    one None is = refl
    one (Some c) is = none_leans c (later j n) (λ q. alone c q is)

pub alone_blocked : (j : Journal) (live : Repository) (n : ℕ) (c : Change) → StandsAlone j n → change_of j n ≡ Some c
    → blocked_at j live n c ≡ (if is_met (held live) c then None else Some n)
alone_blocked j live n c alone is =
    let met = met_alike c (value_at (later j n) (held live)) (held live) (λ q touched. value_kept (later j n) (held live) q (alone c q is touched)) in
    ap (λ b. if b then first_leaning c (later j n) else Some n) met
    ∙ ap (λ o. if is_met (held live) c then o else Some n) (none_leans c (later j n) (λ q. alone c q is))
