-- What is said of a shelf that isn't opened.
use Rattle.std.specs.Prelude.{◌≡◌, ◌⊎◌, ℕ, List, String, string_bytes}
use Rattle.std.specs.FinMap as map
use Rattle.std.specs.Global.{Global}
use Rattle.keep_damage.specs.Damage.{IsDamage}
use Rattle.keep_damage.specs.Report.{findings_text}
use Rattle.keep_damage.specs.declared.finding.Finding.{Finding}
use Rattle.keep_shelf.specs.Shelved.{Content}
use Rattle.keep_opening.specs.declared.open_error.OpenError.{OpenError}
use Rattle.keep_opening.specs.declared.open_error.OpenError.TheVariants.{BadEntry}
use Rattle.keep_script.specs.Status.{status_unopened}
use Rattle.keep_command.specs.declared.ending.Ending.{Ending}
use Rattle.keep_command.specs.declared.ending.Ending.TheVariants as ending

-- this says what is wrong with what stands there
abbrev pub SaysDamage : Content → List ℕ → Type 0
SaysDamage content text = (found : List Finding) × IsDamage (map.get content) found × (text ≡ findings_text found)

-- it ends with that, behind the number by which it is told that nothing there is read
pub record ReportsDamage (content : Content) (number : ℕ) (ended : Ending) : Type 0 where
  pub damage : String Global
  pub says : SaysDamage content (string_bytes damage)
  pub is : ended ≡ ending.Damaged number damage

-- how it ends where a shelf with this on it was refused so: with what is wrong there, or with the refusal alone
abbrev pub IsRefusedSo : Content → OpenError → Ending → Type 0
IsRefusedSo content error ended =
    (ended ≡ ending.Ran (status_unopened error))
    ⊎ ((number : ℕ) × (error ≡ BadEntry number) × ReportsDamage content number ended)
