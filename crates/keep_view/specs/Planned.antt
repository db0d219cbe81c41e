-- A change that was planned on what is shown.
use Rattle.std.specs.Prelude.{◌≡◌, true}
use Rattle.keep_repo.specs.Repository.{held}
use Rattle.keep_change.specs.Change.{is_met}
use Rattle.keep_change.specs.Form.{IsWellFormed}
use Rattle.keep_change.specs.declared.change.Planned.{Planned}
use Rattle.keep_view.specs.Shown.{Shown}

-- the change is well formed, the repository that is shown meets all that it asks, and the length is the one shown
pub record IsPlannedOn (shown : Shown) (planned : Planned) : Type 0 where
  pub well_formed : IsWellFormed planned.change
  pub met : is_met (held shown.repo) planned.change ≡ true
  pub seen : planned.seen ≡ shown.length
