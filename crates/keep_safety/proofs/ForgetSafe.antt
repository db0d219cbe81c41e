-- A forget that is planned is safe.
use Rattle.std.proofs.Common.{◌≡◌, Bool, [], Ok, refl}
use Rattle.keep_names.specs.Laws.{TellsApart}
use Rattle.keep_names.specs.Orders.{name_cmp}
use Rattle.keep_names.specs.declared.id.Id.{Id}
use Rattle.keep_repo.specs.Repository.{Repository}
use Rattle.keep_change.specs.Lists.{SortedListsAreWellFormed}
use Rattle.keep_change.specs.declared.change.Change.{Change}
use Rattle.keep_plan.specs.Taking.{taken_in}
use Rattle.keep_plan.specs.declared.pick.Pick.{Pick}
use Rattle.keep_sound.specs.Careful.{IsSafe}
use Rattle.keep_sound.specs.Met.{HasOneText}
use Rattle.keep_sound.specs.Plans.{ForgettingIsSafe}
use Rattle.keep_labels.specs.Forgetting.{forget_change}
use Rattle.keep_labels.specs.Keeping.{PolicyData, dropped_names}
use Rattle.keep_labels.specs.Swapping.{swapping}
use Rattle.keep_labels.proofs.Forgotten.{can_be, forget_so, forgotten}
use Rattle.keep_labels.proofs.Swapped.{swap_well_formed}
use Rattle.keep_labels.proofs.Taken.{files_are_snapshots}

pub forget_safe : TellsApart name_cmp → ForgettingIsSafe → SortedListsAreWellFormed → (r all : Repository) (known : Id → Bool) (rule : Pick) (policy : PolicyData) (c : Change)
    → forget_change r rule policy ≡ Ok c → HasOneText all → IsSafe all known c
forget_safe apart law sorted r all known rule policy c is one =
    forget_so r rule policy (λ d. IsSafe all known d)
    (λ some. law all known (swapping (forgotten r rule policy) []) one
    ((swap_well_formed apart r (forgotten r rule policy) [] (can_be apart r rule policy some) sorted).once)
    refl refl (files_are_snapshots r (dropped_names policy (taken_in rule r))))
    c is
