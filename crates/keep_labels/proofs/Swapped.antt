-- A change that swaps files that are there for files that aren't can be made.
use Rattle.std.proofs.Common.{◌≡◌, ◌≢◌, Bool, true, false, ◌||◌, List, [], ◌∷◌, All, None, Some, Ordering, refl, sym, ap, subst, ◌∙◌}
use Rattle.std.specs.FinMap.{get}
use Rattle.std.specs.List.{AllByRecursion, list_any}
use Rattle.std.specs.List.Sorted.{IsStrictlySortedBy}
use Rattle.std.specs.Ordering.{eq_by_cmp}
use Rattle.std.proofs.lemmas.List.Elements.{All-nil, recursion_from_All}
use Rattle.keep_names.specs.Laws.{TellsApart}
use Rattle.keep_names.specs.Orders.{name_cmp}
use Rattle.keep_names.specs.declared.file_name.FileName.{FileName}
use Rattle.keep_repo.specs.Repository.{Repository, held}
use Rattle.keep_change.specs.Change.{is_met, written}
use Rattle.keep_change.specs.Form.{AreNamedByBytes, IsWellFormed}
use Rattle.keep_change.specs.Lists.{SortedListsAreWellFormed, WhatIsAskedIsMet, file_names}
use Rattle.keep_change.specs.NamedBytes.{NamedBytes}
use Rattle.keep_labels.specs.Swapping.{swapping}

none_sorted : {K : Type 0} (R : K → K → Ordering) → IsStrictlySortedBy R []
unfolding IsStrictlySortedBy
none_sorted R = tt

pub record CanBeSwapped (r : Repository) (drops adds : List NamedBytes) : Type 0 where
  pub drops_in_order : IsStrictlySortedBy name_cmp (file_names drops)
  pub adds_in_order : IsStrictlySortedBy name_cmp (file_names adds)
  pub there : All (λ (f : NamedBytes). get r.files f.name ≡ Some f.bytes) drops
  pub absent : All (λ (f : NamedBytes). get r.files f.name ≡ None) adds
  pub named : AreNamedByBytes adds
  pub some : drops ≢ []

module _ (apart : TellsApart name_cmp) (r : Repository) (drops adds : List NamedBytes) (can : CanBeSwapped r drops adds) where
  abbrev IsAbsent : FileName → Type 0
  IsAbsent name = get r.files name ≡ None

  absent_of : (k : FileName) (files : List NamedBytes) → AllByRecursion (λ (f : NamedBytes). get r.files f.name ≡ None) files → list_any (eq_by_cmp name_cmp k) (file_names files) ≡ true → get r.files k ≡ None
  absent_of k [] h is = cc is
  absent_of k (f ∷ fs) h is = cases (absent_of k fs h.1) (eq_by_cmp name_cmp k f.name) refl is where
    cases : (list_any (eq_by_cmp name_cmp k) (file_names fs) ≡ true → get r.files k ≡ None) → (b : Bool) → eq_by_cmp name_cmp k f.name ≡ b → (b || list_any (eq_by_cmp name_cmp k) (file_names fs)) ≡ true → get r.files k ≡ None
    cases later true same found = subst IsAbsent (sym ((apart k f.name).0 same)) h.0
    cases later false other found = later found

  none_there : (k : FileName) → get r.files k ≡ None → (files : List NamedBytes) → AllByRecursion (λ (f : NamedBytes). get r.files f.name ≡ Some f.bytes) files → list_any (eq_by_cmp name_cmp k) (file_names files) ≡ false
  none_there k none [] h = refl
  none_there k none (f ∷ fs) h = cases (none_there k none fs h.1) (eq_by_cmp name_cmp k f.name) refl where
    clash : get r.files k ≡ None → get r.files k ≡ Some f.bytes → ⊥
    clash a b = let bad : None ≡ Some f.bytes = sym a ∙ b in (cc bad)

    cases : list_any (eq_by_cmp name_cmp k) (file_names fs) ≡ false → (b : Bool) → eq_by_cmp name_cmp k f.name ≡ b → (b || list_any (eq_by_cmp name_cmp k) (file_names fs)) ≡ false
    cases rest true same = absurd (clash none (ap (get r.files) ((apart k f.name).0 same) ∙ h.0))
    cases rest false other = rest

  writes : (old new : List NamedBytes) → old ≢ [] → written (swapping old new) ≢ []
  writes [] new h e = absurd (h refl)
  writes (f ∷ old) [] h e = (cc e)
  writes (f ∷ old) (g ∷ new) h e = (cc e)

  pub swap_well_formed : SortedListsAreWellFormed → IsWellFormed (swapping drops adds)
  swap_well_formed law =
      law (swapping drops adds)
      (record {
        adds = can.adds_in_order;
        drops = can.drops_in_order;
        sets = none_sorted _;
        clears = none_sorted _;
        present = none_sorted _;
        absent = none_sorted _;
        marked = none_sorted _;
        unmarked = none_sorted _;
      })
      (record {
        adds_drops = λ k h. none_there k (absent_of k adds (recursion_from_All (λ (f : NamedBytes). get r.files f.name ≡ None) adds can.absent) h) drops (recursion_from_All (λ (f : NamedBytes). get r.files f.name ≡ Some f.bytes) drops can.there);
        adds_present = λ k h. refl;
        adds_absent = λ k h. refl;
        drops_present = λ k h. refl;
        drops_absent = λ k h. refl;
        present_absent = λ k h. refl;
      })
      (record {
        sets_clears = λ k h. refl;
        sets_marked = λ k h. refl;
        sets_unmarked = λ k h. refl;
        clears_marked = λ k h. refl;
        clears_unmarked = λ k h. refl;
        marked_unmarked = λ k h. refl;
      })
      can.named
      (writes drops adds can.some)

  pub swap_met : WhatIsAskedIsMet → is_met (held r) (swapping drops adds) ≡ true
  swap_met law =
      law (swapping drops adds) r
      (record {
        adds = can.absent;
        drops = can.there;
        sets = All-nil _;
        clears = All-nil _;
        present = All-nil _;
        absent = All-nil _;
        marked = All-nil _;
        unmarked = All-nil _;
      })
