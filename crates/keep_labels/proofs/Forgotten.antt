-- A forget that is planned can be made.
use Rattle.std.proofs.Common.{◌≡◌, ◌≢◌, Bool, true, false, ◌||◌, cond, List, [], not, Option, None, Some, Result, Ok, Err, refl, sym, ap, subst, ◌∙◌, true≢false}
use Rattle.std.proofs.lemmas.List.Elements.{All-nil}
use Rattle.std.specs.List.Sorted.{IsStrictlySortedBy}
use Rattle.keep_names.specs.Laws.{TellsApart}
use Rattle.keep_names.specs.Orders.{id_cmp, name_cmp}
use Rattle.keep_names.specs.declared.id.Id.{Id}
use Rattle.keep_names.specs.declared.file_name.Kind.TheVariants.{Snapshot}
use Rattle.keep_repo.specs.Repository.{Repository, held}
use Rattle.keep_change.specs.Change.{is_met}
use Rattle.keep_change.specs.Form.{IsWellFormed}
use Rattle.keep_change.specs.Lists.{SortedListsAreWellFormed, WhatIsAskedIsMet}
use Rattle.keep_change.specs.NamedBytes.{NamedBytes}
use Rattle.keep_change.specs.declared.change.Change.{Change}
use Rattle.keep_change.specs.declared.change.Planned.{Planned}
use Rattle.keep_docs.specs.Doc.{Answers}
use Rattle.keep_plan.specs.Taking.{taken_in}
use Rattle.keep_plan.specs.declared.pick.Pick.{Pick}
use Rattle.keep_plan.specs.Refusal.{unless, unread_first}
use Rattle.keep_plan.specs.declared.plan_error.PlanError.{PlanError}
use Rattle.keep_plan.specs.declared.plan_error.PlanError.TheVariants.{Memory, NothingToDo}
use Rattle.keep_snap.specs.Facts.{FactsData}
use Rattle.keep_labels.specs.Edits.{is_empty}
use Rattle.keep_labels.specs.Forgetting.{forget_change, forgetting, forgetting_of, has_no_rule}
use Rattle.keep_labels.specs.Keeping.{PolicyData, dropped_names, keeps}
use Rattle.keep_plan.specs.FilesThere.{files_there}
use Rattle.keep_labels.specs.Swapping.{swapping}
use Rattle.keep_plan.proofs.Rising.{rise_kept}
use Rattle.keep_labels.proofs.Swapped.{CanBeSwapped, swap_met, swap_well_formed}
use Rattle.keep_labels.proofs.Taken.{files_held, files_rise, taken_rise}

-- the files of the taken snapshots that the policy doesn't keep
abbrev pub forgotten : Repository → Pick → PolicyData → List NamedBytes
forgotten r rule policy = files_there r Snapshot (dropped_names policy (taken_in rule r))

-- what the files that are dropped make so, a planned forget is
module _ (r : Repository) (rule : Pick) (policy : PolicyData) (P : Change → Type 0) (so : forgotten r rule policy ≢ [] → P (swapping (forgotten r rule policy) [])) (c : Change) where
  not_empty : (files : List NamedBytes) → (has_no_rule policy || is_empty files) ≡ false → files ≢ []
  not_empty files h e = cases (has_no_rule policy) (ap (λ (fs : List NamedBytes). has_no_rule policy || is_empty fs) (sym e) ∙ h) where
    cases : (b : Bool) → (b || true) ≡ false → ⊥
    cases true g = true≢false g
    cases false g = true≢false g

  made_so : forgetting policy (forgotten r rule policy) ≡ Ok c → P c
  made_so is = cases (has_no_rule policy || is_empty (forgotten r rule policy)) refl is where
    made : Change
    made = swapping (forgotten r rule policy) []

    cases : (b : Bool) → (has_no_rule policy || is_empty (forgotten r rule policy)) ≡ b → cond b (Err NothingToDo) (Ok made) ≡ Ok c → P c
    cases true there h = (cc h)
    cases false absent h =
        let same : made ≡ c = cc h in
        subst P same (so (not_empty (forgotten r rule policy) absent))

  refused_so : (why : Option PlanError) → unless why (forgetting policy (forgotten r rule policy)) ≡ Ok c → P c
  refused_so (Some error) is = (cc is)
  refused_so None is = made_so is

  pub forget_so : forget_change r rule policy ≡ Ok c → P c
  unfolding forget_change
  forget_so is = refused_so (unread_first r) is

module _ (apart : TellsApart name_cmp) (r : Repository) (rule : Pick) (policy : PolicyData) where
  names_rise : IsStrictlySortedBy id_cmp (dropped_names policy (taken_in rule r))
  names_rise = rise_kept id_cmp (λ (s : FactsData). s.name) (λ s. not (keeps policy (taken_in rule r) s)) (taken_in rule r) (taken_rise rule r)

  none_in_order : IsStrictlySortedBy name_cmp []
  unfolding IsStrictlySortedBy
  none_in_order = tt

  pub can_be : forgotten r rule policy ≢ [] → CanBeSwapped r (forgotten r rule policy) []
  can_be some = record {
    drops_in_order = files_rise r (dropped_names policy (taken_in rule r)) names_rise;
    adds_in_order = none_in_order;
    there = files_held r (dropped_names policy (taken_in rule r));
    absent = All-nil _;
    named = All-nil _;
    some = some;
  }

  pub forget_well_formed : SortedListsAreWellFormed → (c : Change) → forget_change r rule policy ≡ Ok c → IsWellFormed c
  forget_well_formed law c is =
      forget_so r rule policy IsWellFormed (λ some. swap_well_formed apart r (forgotten r rule policy) [] (can_be some) law) c is

  pub forget_met : WhatIsAskedIsMet → (c : Change) → forget_change r rule policy ≡ Ok c → is_met (held r) c ≡ true
  forget_met law c is =
      forget_so r rule policy (λ d. is_met (held r) d ≡ true) (λ some. swap_met apart r (forgotten r rule policy) [] (can_be some) law) c is

-- ---- planning

module _ (r : Repository) (rule : Pick) (policy : PolicyData) where
  pub forget_refused : (error : PlanError) → (error ≢ Memory → unread_first r ≡ Some error) → error ≢ Memory → forget_change r rule policy ≡ Err error
  unfolding forget_change
  forget_refused error why other = ap (λ o. unless o (forgetting_of r policy (taken_in rule r))) (why other)

  forget_due : (taken : List FactsData) → unread_first r ≡ None → taken ≡ taken_in rule r → forgetting_of r policy taken ≡ forget_change r rule policy
  unfolding forget_change
  forget_due taken none same = ap (forgetting_of r policy) same ∙ ap (λ o. unless o (forgetting_of r policy (taken_in rule r))) (sym none)

  pub forget_answered : (taken : List FactsData) (result : Result Planned PlanError) → unread_first r ≡ None → taken ≡ taken_in rule r
      → Answers Memory (λ (p : Planned). p.change) (forgetting_of r policy taken) result → Answers Memory (λ (p : Planned). p.change) (forget_change r rule policy) result
  forget_answered taken result none same h =
      subst (λ (due : Result Change PlanError). Answers Memory (λ (p : Planned). p.change) due result) (forget_due taken none same) h
