-- What is published, and what waits.
use Rattle.std.specs.Prelude.{List}
use Rattle.keep_register.specs.Pages.{PageState, StepState}

-- the page that is shown, and the steps that aren't shown yet
pub record Pressed : Type 0 where
  pub page : PageState
  pub pending : List StepState
