-- What a backup is asked for.
use Rattle.std.specs.Prelude.{◌≡◌, [], map}
use Rattle.keep_backup.specs.Backup.{FactsData, facts_view}
use Rattle.keep_patterns.specs.Parsing.{after_slash}
use Rattle.keep_sources.specs.Job.{paths_of}
use Rattle.keep_sources.specs.declared.scope.Scope.{Scope}
use Rattle.keep_backing.specs.declared.asked.Asked.{Asked}

-- what the snapshot says of itself
abbrev pub facts_of : Asked → FactsData
facts_of asked = facts_view asked.facts

-- what is taken of the source
abbrev pub job_of : Asked → Scope
job_of asked = asked.job.value

-- what the snapshot says is taken, from the root of the source on
abbrev pub TakesWhatIsSaid : Asked → Type 0
TakesWhatIsSaid asked = paths_of (job_of asked) ≡ map after_slash (facts_of asked).paths

-- the same is asked for, and of it no file is known
pub record IsAskedAnew (asked anew : Asked) : Type 0 where
  pub facts : facts_of anew ≡ facts_of asked
  pub paths : TakesWhatIsSaid anew
  pub known : (job_of anew).known.entries ≡ []
