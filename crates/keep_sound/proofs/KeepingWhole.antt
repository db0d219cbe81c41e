-- Selections keep whole, and so does what is safe.
use Rattle.std.proofs.Common.{Bool, List, [], ◌∷◌}
use Rattle.keep_names.specs.declared.id.Id.{Id}
use Rattle.keep_repo.specs.Repository.{Repository}
use Rattle.keep_change.specs.Filling.{FacetsFollow, FilesComeFrom}
use Rattle.keep_change.specs.Fold.{Numbered}
use Rattle.keep_change.specs.Result.{result_of}
use Rattle.keep_sound.specs.Met.{HasOneText}
use Rattle.keep_sound.specs.Selection.{AllKeep, AreSafe, with_added}
use Rattle.keep_sound.proofs.Keeping.{part_after}
use Rattle.keep_sound.proofs.Selected.{from_opening}
use Rattle.keep_sound.specs.Restic.{AllSafeKeepWhole, SafeKeepsWhole, SoundIsWhole, restic}
use Rattle.keep_sound.specs.Selected.{SelectionsAreWhole}
use Rattle.keep_sound.specs.Whole.{IsWhole}

pub selections_are_whole : FacetsFollow → FilesComeFrom → SelectionsAreWhole
selections_are_whole follow come says all opening changes chosen part whole keep selection none =
    (from_opening follow come (IsWhole says) all opening changes chosen part whole keep selection none).so

pub safe_keeps_whole : FilesComeFrom → SoundIsWhole → SafeKeepsWhole
safe_keeps_whole come same all known c one adds safe r part are_known met whole =
    let after = part_after come all c r adds part in
    (same (result_of c r) all after one).0 (safe r part are_known met ((same r all part one).1 whole))

each : SafeKeepsWhole → (all : Repository) → HasOneText all → (known : Id → Bool) (ns : List Numbered) → AreSafe all known ns → AllKeep (IsWhole restic) all known ns
each keeps all one known [] safe = tt
each keeps all one known (n ∷ ns) safe =
    (safe.0, safe.1, keeps all known n.change one safe.1 safe.2, each keeps all one (with_added known n) ns safe.3)

pub all_safe_keep_whole : SafeKeepsWhole → AllSafeKeepWhole
all_safe_keep_whole keeps all known changes one safe = each keeps all one known changes safe
