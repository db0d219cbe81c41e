-- Snapshots whose trees are written anew.
use Rattle.std.specs.Prelude.{◌≡◌, ◌⊎◌, Bool, true, ℕ, suc, [], Some}
use Rattle.keep_names.specs.declared.blob.BlobId.{BlobId}
use Rattle.keep_names.specs.declared.file_name.Kind.TheVariants.{Snapshot}
use Rattle.keep_names.specs.declared.id.Id.{Id}
use Rattle.keep_repo.specs.Repository.{Repository}
use Rattle.keep_change.specs.Filling.{fills, finds_filled}
use Rattle.keep_change.specs.Form.{HasNoFacetTwice}
use Rattle.keep_change.specs.declared.change.Change.{Change}
use Rattle.keep_catalog.specs.Naming.{named_by}
use Rattle.keep_reach.specs.Reach.{Names, Reaches, most_levels}
use Rattle.keep_sound.specs.Careful.{GivesPlace, IsSafe}
use Rattle.keep_sound.specs.Forms.{AreOf}
use Rattle.keep_sound.specs.Met.{AddsPart, HasOneText}
use Rattle.keep_sound.specs.Plans.{root_in}
use Rattle.keep_sound.specs.Standing.{file_facet}

-- what is reached from the new tree is given, or reached from the old one with as many levels
abbrev pub Retrees : Repository → Change → ℕ → BlobId → BlobId → Type 0
Retrees all c levels old new =
    (blob : BlobId) → Reaches (named_by all) levels new blob
    → GivesPlace all c blob ⊎ Reaches (named_by all) levels old blob

-- a tree that stays retrees itself
abbrev pub KeptRetrees : Type 0
KeptRetrees = (all : Repository) (c : Change) (levels : ℕ) (tree : BlobId) → Retrees all c levels tree tree

-- so does a tree that is given, if each blob that it names retrees one that the old tree names
abbrev pub BuiltRetrees : Type 0
BuiltRetrees =
    (all : Repository) (c : Change) (levels : ℕ) (old new : BlobId) → GivesPlace all c new
    → ((b : BlobId) → Names (named_by all) new b
    → (a : BlobId) × Names (named_by all) old a × Retrees all c levels a b)
    → Retrees all c (suc levels) old new

-- the added snapshot has a tree that retrees that of a snapshot that has to be there
pub record RetreesOne (all : Repository) (c : Change) (added : Id) : Type 0 where
  pub snapshot : Id
  pub old : BlobId
  pub new : BlobId
  pub needed : finds_filled c (file_facet Snapshot snapshot) ≡ true
  pub old_is : root_in all snapshot ≡ Some old
  pub new_is : root_in all added ≡ Some new
  pub retrees : Retrees all c most_levels old new

-- it sets no mark, drops snapshots alone, and each that it adds retrees one
pub record Rewrites (all : Repository) (c : Change) : Type 0 where
  pub no_marks : c.sets ≡ []
  pub drops : AreOf Snapshot c.drops
  pub trees : (snapshot : Id) → fills c (file_facet Snapshot snapshot) ≡ true → RetreesOne all c snapshot

abbrev pub RewritingIsSafe : Type 0
RewritingIsSafe =
    (all : Repository) (known : Id → Bool) (c : Change) → HasOneText all → HasNoFacetTwice c → AddsPart all c
    → Rewrites all c → IsSafe all known c
