-- Why a shelf isn't opened.
use Rattle.std.specs.Prelude.{◌≡◌, ℕ, List, string_bytes}
use Rattle.std.specs.FinMap as map
use Rattle.keep_damage.specs.Damage.{IsDamage}
use Rattle.keep_damage.specs.Report.{findings_text}
use Rattle.keep_damage.specs.declared.finding.Finding.{Finding}
use Rattle.keep_opening.specs.declared.open_error.OpenError.{OpenError}
use Rattle.keep_opening.specs.declared.open_error.OpenError.TheVariants.{BadEntry}
use Rattle.keep_shelf.specs.Shelved.{Content}
use Rattle.keep_openings.specs.declared.unopened.Unopened as the_unopened
use Rattle.keep_openings.specs.declared.unopened.Unopened.TheVariants.{Damaged, Folder, Unread}

-- this says what is wrong with what stands there
abbrev pub SaysDamage : Content → List ℕ → Type 0
SaysDamage content text = (found : List Finding) × IsDamage (map.get content) found × (text ≡ findings_text found)

-- why a shelf with this on it, which was refused so, isn't opened: what is wrong there, or the refusal alone
abbrev pub IsRefusedSo : Content → OpenError → the_unopened.Unopened → Type 0
IsRefusedSo content error (Folder why) = ⊥
IsRefusedSo content error (Unread why) = why ≡ error
IsRefusedSo content error (Damaged number damage) = (error ≡ BadEntry number) × SaysDamage content (string_bytes damage)
