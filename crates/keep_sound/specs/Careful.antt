-- What a change has to say in its lists, so that no sound repository loses a blob by it.
use Rattle.std.specs.Prelude.{◌≡◌, ◌⊎◌, Bool, true}
use Rattle.keep_names.specs.declared.blob.BlobId.{BlobId}
use Rattle.keep_names.specs.declared.file_name.Kind.TheVariants.{Pack, Index, Snapshot}
use Rattle.keep_names.specs.declared.id.Id.{Id}
use Rattle.keep_repo.specs.Repository.{Repository, held, is_filled}
use Rattle.keep_repo.specs.declared.facet.Facet.TheVariants.{Mark}
use Rattle.keep_change.specs.Change.{is_met}
use Rattle.keep_change.specs.Filling.{asks_empty, empties, fills, finds_filled, leaves_empty, leaves_filled}
use Rattle.keep_change.specs.Form.{HasNoFacetTwice}
use Rattle.keep_change.specs.Result.{result_of}
use Rattle.keep_change.specs.declared.change.Change.{Change}
use Rattle.keep_reach.specs.Snapshots.{Owes}
use Rattle.keep_reach.specs.Sound.{IsSound}
use Rattle.keep_catalog.specs.declared.spot.Spot.{Spot}
use Rattle.keep_sound.specs.Met.{AddsPart, HasOneText, IsPartOf}
use Rattle.keep_sound.specs.Standing.{IsSoundIn, Supports, file_facet}

-- ---- what is promised

-- each snapshot of the repository is a known one
abbrev pub AreKnown : (Id → Bool) → Repository → Type 0
AreKnown known r = (snapshot : Id) → is_filled r (file_facet Snapshot snapshot) ≡ true → known snapshot ≡ true

-- The change keeps what is so of a repository, wherever it is met, if all files of the repository are met, and all its
-- snapshots are known.
abbrev pub Keeps : (Repository → Type 0) → Repository → (Id → Bool) → Change → Type 0
Keeps IsSo all known c =
    (r : Repository) → IsPartOf r all → AreKnown known r → is_met (held r) c ≡ true
    → IsSo r → IsSo (result_of c r)

-- it is safe: it keeps a sound repository sound
abbrev pub IsSafe : Repository → (Id → Bool) → Change → Type 0
IsSafe all known c = Keeps IsSound all known c

-- ---- what a change says of a blob

-- wherever the change is met, the blob stands at this spot after it
pub record Gives (all : Repository) (c : Change) (blob : BlobId) (spot : Spot) (index : Id) : Type 0 where
  pub supports : Supports all blob spot index
  pub has_pack : leaves_filled c (file_facet Pack spot.pack) ≡ true
  pub has_index : leaves_filled c (file_facet Index index) ≡ true
  pub free : leaves_empty c (Mark spot.pack) ≡ true

abbrev pub GivesPlace : Repository → Change → BlobId → Type 0
GivesPlace all c blob = (spot : Spot) × (index : Id) × Gives all c blob spot index

-- a snapshot that has to be there reaches it
abbrev pub OwedByNeeded : Repository → Change → BlobId → Type 0
OwedByNeeded all c blob =
    (needed : Id) × (finds_filled c (file_facet Snapshot needed) ≡ true) × Owes all needed blob

-- an index that the change leaves lists it at the same spot
abbrev pub ListedElsewhere : Repository → Change → BlobId → Spot → Type 0
ListedElsewhere all c blob spot =
    (index : Id) × (leaves_filled c (file_facet Index index) ≡ true) × Supports all blob spot index

-- ---- careful changes

-- what an added snapshot reaches is given, or reached by a snapshot that has to be there
abbrev pub Covers : Repository → Change → Type 0
Covers all c =
    (snapshot : Id) → fills c (file_facet Snapshot snapshot) ≡ true
    → (blob : BlobId) → Owes all snapshot blob → GivesPlace all c blob ⊎ OwedByNeeded all c blob

-- a dropped pack has to be marked
abbrev pub DropsMarked : Change → Type 0
DropsMarked c = (pack : Id) → empties c (file_facet Pack pack) ≡ true → finds_filled c (Mark pack) ≡ true

-- where a dropped index lists a blob, the pack can't be there, or has to be marked, or it is listed elsewhere
abbrev pub Relists : Repository → Change → Type 0
Relists all c =
    (index : Id) → empties c (file_facet Index index) ≡ true
    → (blob : BlobId) (spot : Spot) → Supports all blob spot index
    → (asks_empty c (file_facet Pack spot.pack) ≡ true)
    ⊎ ((finds_filled c (Mark spot.pack) ≡ true) ⊎ ListedElsewhere all c blob spot)

-- where a mark is set, each known snapshot can't be there, or all that it reaches is given
abbrev pub GivesKnown : Repository → (Id → Bool) → Change → Type 0
GivesKnown all known c =
    (pack : Id) → fills c (Mark pack) ≡ true → (snapshot : Id) → known snapshot ≡ true
    → (asks_empty c (file_facet Snapshot snapshot) ≡ true)
    ⊎ ((blob : BlobId) → Owes all snapshot blob → GivesPlace all c blob)

-- a change that keeps or gives a place of each blob that a snapshot reaches
pub record IsCareful (all : Repository) (known : Id → Bool) (c : Change) : Type 0 where
  pub covers : Covers all c
  pub packs : DropsMarked c
  pub indexes : Relists all c
  pub marks : GivesKnown all known c

-- ---- the laws

-- what is sound, and is all met, is sound by the names of files; and the other way round
abbrev pub SoundByNames : Type 0
SoundByNames =
    (r all : Repository) → IsPartOf r all → HasOneText all
    → (IsSound r → IsSoundIn all r) × (IsSoundIn all r → IsSound r)

-- a careful change is safe
abbrev pub CarefulIsSafe : Type 0
CarefulIsSafe =
    (all : Repository) (known : Id → Bool) (c : Change) → HasOneText all → HasNoFacetTwice c → AddsPart all c
    → IsCareful all known c → IsSafe all known c
