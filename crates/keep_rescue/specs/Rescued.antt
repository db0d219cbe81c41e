-- What a rescue comes to.
use Rattle.std.specs.Prelude.{◌≡◌, ℕ, List, [], ◌∷◌, codes, is_some, map, string_bytes, unwrap_or}
use Rattle.keep_sources.specs.Told.{Told}
use Rattle.keep_sources.specs.Took.{TookAll, skip_view}
use Rattle.keep_sources.specs.declared.scope.Scope.{Scope}
use Rattle.keep_sources.specs.declared.skipped.Skipped.{Skipped}
use Rattle.keep_targets.specs.Call.{Call}
use Rattle.keep_rescue.specs.Salvage.{SalvageData, begun, lost_view, putting, steps}
use Rattle.keep_rescue.specs.Seen.{seen_by}
use Rattle.keep_rescue.specs.declared.rescued.Rescued as the_rescued
use Rattle.keep_rescue.specs.declared.salvage.Salvage.{Salvage}

-- all that lies at the config's place and below the folders of packs, indexes and snapshots
pub record IsWanted (job : Scope) : Type 0 where
  pub paths : map string_bytes job.paths.items ≡ codes "config" ∷ codes "data" ∷ codes "index" ∷ codes "snapshots" ∷ []
  pub excludes : job.excludes.items ≡ []
  pub known : job.known.entries ≡ []

-- behind what was taken the config was made: the old one, if there is one, else this new one
pub record IsFinished {T : Type 0} (calls_of : T → List Call) (seen : SalvageData) (skips : List Skipped) (fresh : List ℕ)
    (rescued : the_rescued.Rescued T) : Type 0 where
  pub skipped : map skip_view rescued.skipped.items ≡ map skip_view skips
  pub lost : map lost_view rescued.lost.items ≡ seen.lost
  pub saved : rescued.saved.items ≡ seen.saved
  pub has_config : rescued.has_config ≡ is_some seen.config
  pub calls : calls_of rescued.target ≡ putting seen.calls (codes "/config") (unwrap_or seen.config fresh)

-- a walk over the old folder gave a rescue what it met, and this is named of it
pub record IsTaken (told : Told) (job : Scope) (before now : SalvageData) (skips skipped : List Skipped) : Type 0 where
  pub met : List Skipped
  pub took : TookAll told steps job before now skips met
  pub named : map skip_view skipped ≡ map skip_view met

-- all that is wanted of the old folder was given to a rescue that had done nothing yet
pub record IsWalked {T : Type 0} (told : Told) (calls_of : T → List Call) (before : List Call) (salvage : Salvage T)
    (skipped : List Skipped) : Type 0 where
  pub job : Scope
  pub wanted : IsWanted job
  pub taken : IsTaken told job (begun before) (seen_by calls_of salvage) [] skipped

-- what the walk over the old folder gave was taken as a rescue takes it, and then the config was made
pub record Rescues {T : Type 0} (told : Told) (calls_of : T → List Call) (before : List Call) (fresh : List ℕ)
    (rescued : the_rescued.Rescued T) : Type 0 where
  pub job : Scope
  pub wanted : IsWanted job
  pub seen : SalvageData
  pub skips : List Skipped
  pub taken : IsTaken told job (begun before) seen [] skips
  pub finished : IsFinished calls_of seen skips fresh rescued
