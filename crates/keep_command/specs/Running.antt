-- What a run by the options goes by, and how it keeps to lines.
use Rattle.std.specs.Prelude.{◌≡◌, ◌≢◌, ◌≤◌, ℕ, List, [], ◌∷◌, length, IfSome, Option, String, codes}
use Rattle.std.specs.Global.{Global}
use Rattle.keep_hooks.specs.Guards.{Rule, WatchData}
use Rattle.keep_jobs.specs.Job.{SettingsData}
use Rattle.keep_jobs.specs.Kits.{KitData, NamedRule}
use Rattle.keep_hooks.specs.declared.limit.Limit.TheVariants.{NoEmpty, SnapshotDropsAtMost}
use Rattle.keep_hooks.specs.declared.measure.Measure.TheVariants.{Events, FilesWritten}
use Rattle.keep_plan.specs.declared.pick.Pick.TheVariants.{Any, Host, Tagged}
use Rattle.keep_answers.specs.Known.{WritesLines}
use Rattle.keep_script.specs.Line.{longest_script}
use Rattle.keep_script.specs.declared.status.RunStatus.TheVariants.{ScriptTooLong, WriteFailed}
use Rattle.keep_options.specs.Option.{OptionsData}
use Rattle.keep_command.specs.declared.ending.Ending.{Ending}
use Rattle.keep_command.specs.declared.ending.Ending.TheVariants as ending

-- the filters that lines may name: `all` takes each snapshot, `host` those of a host, `tagged` those with a tag
abbrev pub stored_filters : String Global → String Global → List NamedRule
stored_filters host tag = (codes "all", Any) ∷ (codes "host", Host host) ∷ (codes "tagged", Tagged tag) ∷ []

-- the vetoes that lines may arm: `few-drops` refuses to drop more snapshots than so many, `no-empty` to empty the trash
abbrev pub stored_vetoes : ℕ → List Rule
stored_vetoes drops =
    record { name = codes "few-drops"; limit = SnapshotDropsAtMost drops }
    ∷ record { name = codes "no-empty"; limit = NoEmpty } ∷ []

-- the watches that lines may arm: `events` counts events, and `files` the files that they add and drop
abbrev pub stored_watches : List WatchData
stored_watches =
    record { name = codes "events"; measure = Events }
    ∷ record { name = codes "files"; measure = FilesWritten } ∷ []

-- these filters, with those vetoes and watches
abbrev pub stored : List NamedRule → ℕ → KitData
stored filters drops = record { filters = filters; vetoes = stored_vetoes drops; watches = stored_watches }

-- what jobs go by
abbrev pub settings_of : OptionsData → SettingsData
settings_of options = record { cut = options.cut; now = options.now }

-- unless a write failed whole lines are written, and a script is told as too long only where it is
abbrev pub KeepsLines : (known old new : Option (List ℕ)) → Ending → Type 0
KeepsLines known old new ended =
    (ended ≢ ending.Ran WriteFailed → WritesLines old new)
    × (ended ≡ ending.Ran ScriptTooLong → IfSome known (λ script. longest_script ≤ length script))
