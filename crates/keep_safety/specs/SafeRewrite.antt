-- That a planned rewrite keeps every sound repository sound.
use Rattle.std.specs.Prelude.{◌≡◌, Bool, true, List, All, Some, Ok}
use Rattle.keep_names.specs.declared.id.Id.{Id}
use Rattle.keep_repo.specs.Repository.{Repository}
use Rattle.keep_patterns.specs.Parsing.{PatternData}
use Rattle.keep_change.specs.declared.change.Change.{Change}
use Rattle.keep_catalog.specs.Places.{bytes_at, is_honest}
use Rattle.keep_catalog.specs.declared.spot.Spot.{Spot}
use Rattle.keep_plan.specs.Taking.{taken_in}
use Rattle.keep_plan.specs.declared.pick.Pick.{Pick}
use Rattle.keep_sound.specs.Careful.{IsSafe}
use Rattle.keep_sound.specs.Met.{AddsPart, IsIn}
use Rattle.keep_build.specs.Blobs.{BlobData, blob_id_of}
use Rattle.keep_build.specs.Stored.{built}
use Rattle.keep_rewrite.specs.Rewriting.{finished_for, rewrite_change}
use Rattle.keep_safety.specs.Met.{AreFiles, IsMet}

-- wherever all files have a blob of this name, they have its bytes
abbrev pub IsOneText : Repository → BlobData → Type 0
IsOneText all b = (spot : Spot) → is_honest all (blob_id_of b) spot ≡ true → bytes_at all spot ≡ Some b.1

-- What a rewrite builds is met: its files, also those that the repository has already, and the trees that are
-- written anew.
pub record MeetsRewrite (all r : Repository) (rule : Pick) (patterns : List PatternData) : Type 0 where
  pub built : All (IsIn all) (built r (finished_for r patterns (taken_in rule r)))
  pub trees : All (IsOneText all) (finished_for r patterns (taken_in rule r))

-- the change of a rewrite is safe, whatever snapshots are known, where the new snapshots are met
abbrev pub RewriteIsSafe : Type 0
RewriteIsSafe =
    (r all : Repository) (known : Id → Bool) (rule : Pick) (patterns : List PatternData) (forget : Bool) (c : Change)
    → rewrite_change r rule patterns forget ≡ Ok c
    → IsMet all r → AreFiles r → AddsPart all c → MeetsRewrite all r rule patterns → IsSafe all known c
