-- Three forms of careful changes.
use Rattle.std.specs.Prelude.{◌≡◌, ◌⊎◌, Bool, true, List, [], All}
use Rattle.keep_names.specs.declared.blob.BlobId.{BlobId}
use Rattle.keep_names.specs.declared.file_name.Kind.{Kind}
use Rattle.keep_names.specs.declared.file_name.Kind.TheVariants.{Index, Snapshot}
use Rattle.keep_names.specs.declared.id.Id.{Id}
use Rattle.keep_repo.specs.Repository.{Repository}
use Rattle.keep_change.specs.Filling.{asks_empty}
use Rattle.keep_change.specs.NamedBytes.{NamedBytes}
use Rattle.keep_change.specs.declared.change.Change.{Change}
use Rattle.keep_reach.specs.Snapshots.{Owes}
use Rattle.keep_sound.specs.Careful.{Covers, DropsMarked, GivesPlace, IsCareful, Relists}
use Rattle.keep_sound.specs.Standing.{file_facet}

-- the files are all of this kind
abbrev pub AreOf : Kind → List NamedBytes → Type 0
AreOf kind files = All (λ f. f.name.kind ≡ kind) files

-- it sets no mark, drops snapshots alone, and covers those that it adds: a backup, a tag, a forget, a rewrite
pub record IsCovering (all : Repository) (c : Change) : Type 0 where
  pub no_marks : c.sets ≡ []
  pub drops : AreOf Snapshot c.drops
  pub covers : Covers all c

-- it sets no mark, adds indexes alone, drops marked packs alone, and relists: a repair, a sweep
pub record IsRelisting (all : Repository) (c : Change) : Type 0 where
  pub no_marks : c.sets ≡ []
  pub adds : AreOf Index c.adds
  pub packs : DropsMarked c
  pub relists : Relists all c

-- it adds and drops nothing, and of each known snapshot records the absence, or gives all that it reaches: a mark
pub record IsMarking (all : Repository) (known : Id → Bool) (c : Change) : Type 0 where
  pub no_adds : c.adds ≡ []
  pub no_drops : c.drops ≡ []
  pub gives : (snapshot : Id) → known snapshot ≡ true
      → (asks_empty c (file_facet Snapshot snapshot) ≡ true)
      ⊎ ((blob : BlobId) → Owes all snapshot blob → GivesPlace all c blob)

-- each of the three is careful
abbrev pub CoveringIsCareful : Type 0
CoveringIsCareful =
    (all : Repository) (known : Id → Bool) (c : Change) → IsCovering all c → IsCareful all known c

abbrev pub RelistingIsCareful : Type 0
RelistingIsCareful =
    (all : Repository) (known : Id → Bool) (c : Change) → IsRelisting all c → IsCareful all known c

abbrev pub MarkingIsCareful : Type 0
MarkingIsCareful =
    (all : Repository) (known : Id → Bool) (c : Change) → IsMarking all known c → IsCareful all known c
