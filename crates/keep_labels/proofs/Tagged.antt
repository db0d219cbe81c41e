-- An edit of tags that is planned can be made.
use Rattle.std.proofs.Common.{◌≡◌, ◌≢◌, Bool, true, false, cond, List, [], ◌∷◌, not, Option, None, Some, Result, Ok, Err, option_map, refl, sym, ap, subst, ◌∙◌, true≢false}
use Rattle.std.proofs.lemmas.List.Elements.{All-from_recursion}
use Rattle.std.specs.List.{AllByRecursion, cons_option, filter_map}
use Rattle.std.specs.List.Sorted.{IsStrictlySortedBy}
use Rattle.keep_names.specs.Laws.{TellsApart}
use Rattle.keep_names.specs.Orders.{id_cmp, name_cmp}
use Rattle.keep_names.specs.Sha256.{sha256}
use Rattle.keep_names.specs.declared.blob.BlobId.{BlobId}
use Rattle.keep_names.specs.declared.id.Id.{Id}
use Rattle.keep_names.specs.declared.file_name.Kind.TheVariants.{Snapshot}
use Rattle.keep_repo.specs.Repository.{Repository, held}
use Rattle.keep_change.specs.Change.{is_met}
use Rattle.keep_change.specs.Form.{AreNamedByBytes, IsWellFormed}
use Rattle.keep_change.specs.Lists.{SortedListsAreWellFormed, WhatIsAskedIsMet}
use Rattle.keep_change.specs.NamedBytes.{NamedBytes}
use Rattle.keep_change.specs.declared.change.Change.{Change}
use Rattle.keep_change.specs.declared.change.Planned.{Planned}
use Rattle.keep_docs.specs.Doc.{Answers}
use Rattle.keep_catalog.specs.Files.{snap_in}
use Rattle.keep_plan.specs.Taking.{taken_in}
use Rattle.keep_plan.specs.declared.pick.Pick.{Pick}
use Rattle.keep_plan.specs.Refusal.{unless, unread_first}
use Rattle.keep_plan.specs.Storing.{CanBeMade, absent_files, is_any_taken, stored_built}
use Rattle.keep_plan.specs.declared.plan_error.PlanError.{PlanError}
use Rattle.keep_plan.specs.declared.plan_error.PlanError.TheVariants.{Memory, NothingToDo, SnapshotThere}
use Rattle.keep_snap.specs.Facts.{FactsData}
use Rattle.keep_snap.specs.Snap.{SnapData}
use Rattle.keep_labels.specs.Edits.{EditData, Tags, are_same, edited, is_empty}
use Rattle.keep_plan.specs.FilesThere.{files_there}
use Rattle.keep_labels.specs.Swapping.{swapping}
use Rattle.keep_labels.specs.Tagging.{bad_edit, changed_by, retagged_file, retagged_files, tag_change, tagged_file, tagging_of}
use Rattle.keep_plan.proofs.Rising.{rise_kept}
use Rattle.keep_labels.proofs.Swapped.{CanBeSwapped, swap_met, swap_well_formed}
use Rattle.keep_labels.proofs.Taken.{files_held, files_rise, names_of, taken_rise}

-- what becomes of files that are built, where no blob is used
abbrev pub WhatIsStoredCanBeMade : Type 0
WhatIsStoredCanBeMade = (r : Repository) (used : List BlobId) (built : List NamedBytes) → AreNamedByBytes built → CanBeMade r (stored_built r used built)

module _ (r : Repository) (rule : Pick) (edit : EditData) where
  -- the taken snapshots whose tags the edit changes, their files, and those that stand in their place
  abbrev pub changed : List FactsData
  changed = changed_by edit (taken_in rule r)

  abbrev pub old_files : List NamedBytes
  old_files = files_there r Snapshot (names_of changed)

  abbrev pub new_files : List NamedBytes
  new_files = retagged_files r edit changed

  module _ (P : Change → Type 0) (so : old_files ≢ [] → P (swapping old_files (absent_files r new_files))) (c : Change) where
    abbrev made : Change
    made = swapping old_files (absent_files r new_files)

    not_empty : (files : List NamedBytes) → is_empty files ≡ false → files ≢ []
    not_empty files h e = true≢false (sym (ap (λ (fs : List NamedBytes). is_empty fs) e) ∙ h)

    swapped_so : (b : Bool) → is_empty old_files ≡ b → cond b (Err NothingToDo) (Ok made) ≡ Ok c → P c
    swapped_so true none h = (cc h)
    swapped_so false some h =
        let same : made ≡ c = cc h in
        subst P same (so (not_empty old_files some))

    placed_so : (b : Bool) → cond b (Err SnapshotThere) (cond (is_empty old_files) (Err NothingToDo) (Ok made)) ≡ Ok c → P c
    placed_so true h = (cc h)
    placed_so false h = swapped_so (is_empty old_files) refl h

    read_so : (why : Option PlanError) → unless why (tagging_of r edit changed) ≡ Ok c → P c
    read_so (Some error) h = (cc h)
    read_so None h = placed_so (is_any_taken r new_files) h

    asked_so : (why : Option PlanError) → unless why (unless (unread_first r) (tagging_of r edit changed)) ≡ Ok c → P c
    asked_so (Some error) h = (cc h)
    asked_so None h = read_so (unread_first r) h

    pub tag_so : tag_change r rule edit ≡ Ok c → P c
    unfolding tag_change
    tag_so h = asked_so (bad_edit edit) h

  -- the new files are named by their bytes

  tagged_own : (snap : SnapData) (name : Id) (tags : Tags) → (tagged_file snap name tags).name.id.0 ≡ sha256 ((tagged_file snap name tags).bytes)
  unfolding tagged_file
  tagged_own snap name tags = refl

  own_of : (s : FactsData) (o : Option SnapData) (f : NamedBytes) → option_map (λ snap. tagged_file snap s.name (edited edit s.tags)) o ≡ Some f → f.name.id.0 ≡ sha256 f.bytes
  own_of s None f is = (cc is)
  own_of s (Some snap) f is =
      let same : tagged_file snap s.name (edited edit s.tags) ≡ f = cc is in
      subst (λ (g : NamedBytes). g.name.id.0 ≡ sha256 g.bytes) same (tagged_own snap s.name (edited edit s.tags))

  all_own : (all : List FactsData) → AllByRecursion (λ (f : NamedBytes). f.name.id.0 ≡ sha256 f.bytes) (filter_map (retagged_file r edit) all)
  all_own [] = tt
  all_own (s ∷ all) = cases (all_own all) (retagged_file r edit s) refl where
    cases : AllByRecursion (λ (f : NamedBytes). f.name.id.0 ≡ sha256 f.bytes) (filter_map (retagged_file r edit) all) → (o : Option NamedBytes) → retagged_file r edit s ≡ o
        → AllByRecursion (λ (f : NamedBytes). f.name.id.0 ≡ sha256 f.bytes) (cons_option o (filter_map (retagged_file r edit) all))
    cases rest None is = rest
    cases rest (Some f) is = (own_of s (snap_in r s.name) f is, rest)

  pub new_own : AreNamedByBytes new_files
  new_own = All-from_recursion (λ (f : NamedBytes). f.name.id.0 ≡ sha256 f.bytes) new_files (all_own changed)

  names_rise : IsStrictlySortedBy id_cmp (names_of changed)
  names_rise = rise_kept id_cmp (λ (s : FactsData). s.name) (λ s. not (are_same s.tags (edited edit s.tags))) (taken_in rule r) (taken_rise rule r)

  module _ (apart : TellsApart name_cmp) (settling : WhatIsStoredCanBeMade) where
    adds_of : CanBeMade r (stored_built r [] new_files) → old_files ≢ [] → CanBeSwapped r old_files (absent_files r new_files)
    unfolding stored_built
    adds_of can some = record {
      drops_in_order = files_rise r (names_of changed) names_rise;
      adds_in_order = can.adds_in_order;
      there = files_held r (names_of changed);
      absent = can.adds;
      named = can.named;
      some = some;
    }

    can_be : old_files ≢ [] → CanBeSwapped r old_files (absent_files r new_files)
    can_be some = adds_of (settling r [] new_files new_own) some

    pub tag_well_formed : SortedListsAreWellFormed → (c : Change) → tag_change r rule edit ≡ Ok c → IsWellFormed c
    tag_well_formed law c is = tag_so IsWellFormed (λ some. swap_well_formed apart r old_files (absent_files r new_files) (can_be some) law) c is

    pub tag_met : WhatIsAskedIsMet → (c : Change) → tag_change r rule edit ≡ Ok c → is_met (held r) c ≡ true
    tag_met law c is = tag_so (λ d. is_met (held r) d ≡ true) (λ some. swap_met apart r old_files (absent_files r new_files) (can_be some) law) c is

-- ---- planning

module _ (r : Repository) (rule : Pick) (edit : EditData) where
  pub tag_refused : (error : PlanError) → bad_edit edit ≡ None → (error ≢ Memory → unread_first r ≡ Some error) → error ≢ Memory → tag_change r rule edit ≡ Err error
  unfolding tag_change
  tag_refused error good why other =
      let due = tagging_of r edit (changed_by edit (taken_in rule r)) in
      ap (λ o. unless o (unless (unread_first r) due)) good ∙ ap (λ o. unless o due) (why other)

  pub tag_bad : (error : PlanError) → bad_edit edit ≡ Some error → tag_change r rule edit ≡ Err error
  unfolding tag_change
  tag_bad error bad = ap (λ o. unless o (unless (unread_first r) (tagging_of r edit (changed_by edit (taken_in rule r))))) bad

  tag_due : (taken : List FactsData) → bad_edit edit ≡ None → unread_first r ≡ None → taken ≡ taken_in rule r → tagging_of r edit (changed_by edit taken) ≡ tag_change r rule edit
  unfolding tag_change
  tag_due taken good none same =
      let due = tagging_of r edit (changed_by edit (taken_in rule r)) in
      ap (λ (ts : List FactsData). tagging_of r edit (changed_by edit ts)) same ∙ ap (λ o. unless o due) (sym none) ∙ ap (λ o. unless o (unless (unread_first r) due)) (sym good)

  pub tag_answered : (taken : List FactsData) (result : Result Planned PlanError) → bad_edit edit ≡ None → unread_first r ≡ None → taken ≡ taken_in rule r
      → Answers Memory (λ (p : Planned). p.change) (tagging_of r edit (changed_by edit taken)) result → Answers Memory (λ (p : Planned). p.change) (tag_change r rule edit) result
  tag_answered taken result good none same h =
      subst (λ (due : Result Change PlanError). Answers Memory (λ (p : Planned). p.change) due result) (tag_due taken good none same) h
