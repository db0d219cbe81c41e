-- What restic's files say, and that a sound repository is a whole one.
use Rattle.std.specs.Prelude.{Bool, List, Some}
use Rattle.std.specs.List.{flat_map}
use Rattle.std.specs.Option.{option_map}
use Rattle.keep_names.specs.declared.id.Id.{Id}
use Rattle.keep_repo.specs.Repository.{Repository}
use Rattle.keep_change.specs.Fold.{Numbered}
use Rattle.keep_change.specs.declared.change.Change.{Change}
use Rattle.keep_snap.specs.Snap.{SnapData}
use Rattle.keep_catalog.specs.Files.{snap_read, what_is_read}
use Rattle.keep_catalog.specs.Naming.{named_of, read_tree_of}
use Rattle.keep_catalog.specs.Places.{at, is_among, places_listed, places_stored}
use Rattle.keep_reach.specs.Sound.{IsSound}
use Rattle.keep_sound.specs.Careful.{IsSafe, Keeps}
use Rattle.keep_sound.specs.Met.{AddsPart, HasOneText, IsPartOf}
use Rattle.keep_sound.specs.Selection.{AllKeep, AreSafe}
use Rattle.keep_sound.specs.Whole.{IsWhole, Says}

-- the tree of a snapshot; what the nodes of a tree name; whether the blob is one of an index, and one of a header
abbrev pub restic : Says
restic = record {
  root = λ bytes. option_map (λ (snap : SnapData). snap.tree) (snap_read (Some bytes));
  names = λ text. flat_map named_of (what_is_read (Some (read_tree_of text)));
  lists = λ bytes blob spot. is_among (places_listed (Some bytes)) (at blob spot);
  has = λ bytes blob spot. is_among (places_stored spot.pack (Some bytes)) (at blob spot);
}

-- among files that are all met, where no id stands for two texts, to be sound is to be whole
abbrev pub SoundIsWhole : Type 0
SoundIsWhole =
    (r all : Repository) → IsPartOf r all → HasOneText all
    → (IsSound r → IsWhole restic r) × (IsWhole restic r → IsSound r)

-- so a change that is safe keeps a whole repository whole
abbrev pub SafeKeepsWhole : Type 0
SafeKeepsWhole =
    (all : Repository) (known : Id → Bool) (c : Change) → HasOneText all → AddsPart all c
    → IsSafe all known c → Keeps (IsWhole restic) all known c

-- and so do many
abbrev pub AllSafeKeepWhole : Type 0
AllSafeKeepWhole =
    (all : Repository) (known : Id → Bool) (changes : List Numbered) → HasOneText all
    → AreSafe all known changes → AllKeep (IsWhole restic) all known changes
