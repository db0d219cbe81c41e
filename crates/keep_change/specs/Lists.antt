-- What makes a change well formed and met, list by list, as a planner knows it.
use Rattle.std.specs.Prelude.{◌≡◌, ◌≢◌, true, false, List, [], map, All, Some, None, IsSome}
use Rattle.std.specs.List.{list_any}
use Rattle.std.specs.List.Sorted.{IsStrictlySortedBy}
use Rattle.std.specs.Ordering.{eq_by_cmp}
use Rattle.std.specs.declared.cmp.Ordering.{Ordering}
use Rattle.std.specs.FinMap as finite
use Rattle.keep_names.specs.Orders.{id_cmp, name_cmp}
use Rattle.keep_names.specs.declared.file_name.FileName.{FileName}
use Rattle.keep_names.specs.declared.id.Id.{Id}
use Rattle.keep_repo.specs.Repository.{Repository, held}
use Rattle.keep_change.specs.Change.{is_met, written}
use Rattle.keep_change.specs.Form.{AreNamedByBytes, IsWellFormed}
use Rattle.keep_change.specs.NamedBytes.{NamedBytes}
use Rattle.keep_change.specs.declared.change.Change.{Change}
use Rattle.keep_change.specs.declared.change.PackMark.{PackMark}

-- the names of files
abbrev pub file_names : List NamedBytes → List FileName
file_names files = map (λ f. f.name) files

-- the packs that these marks are of
abbrev pub marked_packs : List PackMark → List Id
marked_packs marks = map (λ m. m.pack) marks

-- each list is in order: files by name, marks by pack
pub record AreSorted (c : Change) : Type 0 where
  pub adds : IsStrictlySortedBy name_cmp (file_names c.adds)
  pub drops : IsStrictlySortedBy name_cmp (file_names c.drops)
  pub sets : IsStrictlySortedBy id_cmp (marked_packs c.sets)
  pub clears : IsStrictlySortedBy id_cmp (marked_packs c.clears)
  pub present : IsStrictlySortedBy name_cmp c.present
  pub absent : IsStrictlySortedBy name_cmp c.absent
  pub marked : IsStrictlySortedBy id_cmp c.marked
  pub unmarked : IsStrictlySortedBy id_cmp c.unmarked

-- nothing stands in both lists
abbrev pub AreApart : {K : Type 0} → (K → K → Ordering) → List K → List K → Type 0
AreApart {K} R ks ls = (k : K) → list_any (eq_by_cmp R k) ks ≡ true → list_any (eq_by_cmp R k) ls ≡ false

-- no two of the lists of files have a name in common
pub record FilesAreApart (c : Change) : Type 0 where
  pub adds_drops : AreApart name_cmp (file_names c.adds) (file_names c.drops)
  pub adds_present : AreApart name_cmp (file_names c.adds) c.present
  pub adds_absent : AreApart name_cmp (file_names c.adds) c.absent
  pub drops_present : AreApart name_cmp (file_names c.drops) c.present
  pub drops_absent : AreApart name_cmp (file_names c.drops) c.absent
  pub present_absent : AreApart name_cmp c.present c.absent

-- no two of the lists of marks have a pack in common
pub record MarksAreApart (c : Change) : Type 0 where
  pub sets_clears : AreApart id_cmp (marked_packs c.sets) (marked_packs c.clears)
  pub sets_marked : AreApart id_cmp (marked_packs c.sets) c.marked
  pub sets_unmarked : AreApart id_cmp (marked_packs c.sets) c.unmarked
  pub clears_marked : AreApart id_cmp (marked_packs c.clears) c.marked
  pub clears_unmarked : AreApart id_cmp (marked_packs c.clears) c.unmarked
  pub marked_unmarked : AreApart id_cmp c.marked c.unmarked

-- a change whose lists are in order and apart is well formed, if its adds are named by their bytes and something is written
abbrev pub SortedListsAreWellFormed : Type 0
SortedListsAreWellFormed =
    (c : Change) → AreSorted c → FilesAreApart c → MarksAreApart c
    → AreNamedByBytes c.adds → written c ≢ [] → IsWellFormed c

-- the repository has just what the change asks for
pub record HasWhatIsAsked (c : Change) (r : Repository) : Type 0 where
  -- no file has the name of an added one
  pub adds : All (λ f. finite.get r.files f.name ≡ None) c.adds
  -- each dropped file is there, with its bytes
  pub drops : All (λ f. finite.get r.files f.name ≡ Some f.bytes) c.drops
  -- no pack whose mark is set has one
  pub sets : All (λ m. finite.get r.marks m.pack ≡ None) c.sets
  -- each cleared mark is there, with its moment
  pub clears : All (λ m. finite.get r.marks m.pack ≡ Some m.mark) c.clears
  pub present : All (λ name. IsSome (finite.get r.files name)) c.present
  pub absent : All (λ name. finite.get r.files name ≡ None) c.absent
  pub marked : All (λ pack. IsSome (finite.get r.marks pack)) c.marked
  pub unmarked : All (λ pack. finite.get r.marks pack ≡ None) c.unmarked

-- a change is met where the repository has just what it asks for
abbrev pub WhatIsAskedIsMet : Type 0
WhatIsAskedIsMet = (c : Change) (r : Repository) → HasWhatIsAsked c r → is_met (held r) c ≡ true
