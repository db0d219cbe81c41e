-- That planned sweeps and repairs keep every sound repository sound, and what their new index lists.
use Rattle.std.specs.Prelude.{◌≡◌, ◌&&◌, ℕ, ℤ, Bool, not, false, List, All, Ok, is_ok}
use Rattle.std.specs.List.{flat_map, list_any}
use Rattle.std.specs.Option.{option_map_or}
use Rattle.keep_names.specs.declared.id.Id.{Id}
use Rattle.keep_repo.specs.Repository.{Repository}
use Rattle.keep_index.specs.Index.{Fits}
use Rattle.keep_index.specs.Joining.{lists_pack}
use Rattle.keep_change.specs.Filling.{has_pack}
use Rattle.keep_change.specs.Lists.{marked_packs}
use Rattle.keep_change.specs.declared.change.Change.{Change}
use Rattle.keep_catalog.specs.Files.{header_in}
use Rattle.keep_catalog.specs.Places.{is_among, is_stored, listed_in, listed_of}
use Rattle.keep_catalog.specs.declared.spot.PackedBlob.{PackedBlob}
use Rattle.keep_sound.specs.Careful.{IsSafe}
use Rattle.keep_sound.specs.Met.{IsIn}
use Rattle.keep_upkeep.specs.Repair.{packs_there, repair_change, whole_files}
use Rattle.keep_upkeep.specs.Sweep.{left_files, listing, names_of, packs_left, sweep_change, waited_marks}
use Rattle.keep_safety.specs.Met.{AreFiles, IsMet}

-- ---- sweeps

-- The new index lists the places that the indexes list which list a swept pack, but for those in swept packs.
abbrev pub SweepsKeepPlaces : Type 0
SweepsKeepPlaces =
    (r : Repository) (packs : List Id) (p : PackedBlob)
    → is_among (flat_map listed_of (packs_left r packs)) p
    ≡ (not (has_pack packs p.spot.pack) && list_any (λ index. is_among (listed_in r index) p) (names_of (listing r packs)))

-- And it lists the packs that they list and that aren't swept, those without blobs too.
abbrev pub SweepsKeepPacks : Type 0
SweepsKeepPacks =
    (r : Repository) (packs : List Id) (pack : Id)
    → lists_pack (packs_left r packs) pack
    ≡ (not (has_pack packs pack) && list_any (λ index. lists_pack index.1 pack) (listing r packs))

-- the new index is met, also where the repository has it already
abbrev pub MeetsSweep : Repository → Repository → ℤ → ℕ → Type 0
MeetsSweep all r now wait = All (IsIn all) (left_files r (marked_packs (waited_marks r now wait)))

-- the change of a sweep is safe, whatever snapshots are known
abbrev pub SweepIsSafe : Type 0
SweepIsSafe =
    (r all : Repository) (known : Id → Bool) (now : ℤ) (wait : ℕ) (c : Change)
    → sweep_change r now wait ≡ Ok c → IsMet all r → MeetsSweep all r now wait → IsSafe all known c

-- ---- repairs

-- whether the pack is there, and can be read
abbrev pub can_be_read : Repository → Id → Bool
can_be_read r pack = option_map_or is_ok (header_in r pack) false

-- The new index lists the places that the headers have which can be read, and no others.
abbrev pub RepairsListPlaces : Type 0
RepairsListPlaces = (r : Repository) (p : PackedBlob) → is_among (flat_map listed_of (packs_there r)) p ≡ is_stored r p

-- And it lists the packs that can be read, those without blobs too, and no others.
abbrev pub RepairsListPacks : Type 0
RepairsListPacks = (r : Repository) (pack : Id) → lists_pack (packs_there r) pack ≡ can_be_read r pack

-- And it can be written, whatever files there are: its ids have 32 bytes, and its numbers fit.
abbrev pub HeadersFitAnIndex : Type 0
HeadersFitAnIndex = (r : Repository) → AreFiles r → Fits (packs_there r)

-- the new index is met, also where the repository has it already
abbrev pub MeetsRepair : Repository → Repository → Type 0
MeetsRepair all r = All (IsIn all) (whole_files r)

-- the change of a repair is safe, whatever snapshots are known
abbrev pub RepairIsSafe : Type 0
RepairIsSafe =
    (r all : Repository) (known : Id → Bool) (c : Change)
    → repair_change r ≡ Ok c → IsMet all r → AreFiles r → MeetsRepair all r → IsSafe all known c
