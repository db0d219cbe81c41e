-- What is due where a file that was built is there with other bytes, or none is.
use Rattle.std.proofs.Common.{◌≡◌, Option, None, Some, Result, Ok, Err, refl, ap}
use Rattle.keep_names.specs.declared.file_name.FileName.{FileName}
use Rattle.keep_plan.specs.declared.plan_error.PlanError.{PlanError}
use Rattle.keep_archive.specs.Plans.{unless_differing}
use Rattle.keep_archive.specs.declared.not_planned.NotPlanned.TheVariants.{Differs, Unplanned}

module _ {X : Type 0} where
  -- a planner's refusal stays
  pub refused_so : (differing : Option FileName) (due : Result X PlanError) (error : PlanError) → due ≡ Err error → unless_differing differing due ≡ Err (Unplanned error)
  refused_so differing due error is = ap (unless_differing differing) is

  -- what is planned, and no file differs
  pub due_so : (differing : Option FileName) (due : Result X PlanError) (made : X) → due ≡ Ok made → differing ≡ None → unless_differing differing due ≡ Ok made
  due_so differing due made is none = (λ i. unless_differing (none i) (is i))

  -- a file differs
  pub differs_so : (differing : Option FileName) (due : Result X PlanError) (made : X) (file : FileName) → due ≡ Ok made → differing ≡ Some file → unless_differing differing due ≡ Err (Differs file)
  differs_so differing due made file is some = (λ i. unless_differing (some i) (is i))

  -- what is due was planned
  pub planned_so : (differing : Option FileName) (due : Result X PlanError) (made : X) → unless_differing differing due ≡ Ok made → due ≡ Ok made
  planned_so differing (Err error) made is = cc is
  planned_so (Some file) (Ok planned) made is = cc is
  planned_so None (Ok planned) made is = let same : planned ≡ made = cc is in ap Ok same

  -- and no file differs
  pub none_so : (differing : Option FileName) (due : Result X PlanError) (made : X) → unless_differing differing due ≡ Ok made → differing ≡ None
  none_so differing (Err error) made is = cc is
  none_so (Some file) (Ok planned) made is = cc is
  none_so None (Ok planned) made is = refl

  -- the file that is named is the one that differs
  pub named_so : (differing : Option FileName) (due : Result X PlanError) (file : FileName) → unless_differing differing due ≡ Err (Differs file) → differing ≡ Some file
  named_so differing (Err error) file is = cc is
  named_so (Some other) (Ok planned) file is = let same : other ≡ file = cc is in ap Some same
  named_so None (Ok planned) file is = cc is
