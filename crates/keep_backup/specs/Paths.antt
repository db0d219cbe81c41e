-- The paths of a backup: which there are, and which can't stand beside one another.
use Rattle.std.specs.Prelude.{◌≡◌, ◌≢◌, ◌<◌, ◌≤◌, ℕ, ◌==◌, Bool, true, false, ◌||◌, nat_lt, length, slice_get, List, [], ◌∷◌, map, Option, None, Some, option_map, Result, Ok, Err, if◌then◌else◌}
use Rattle.std.specs.Cmp.Lexicographic.{slice_cmp}
use Rattle.std.specs.FinMap.{entries, from_entries}
use Rattle.std.specs.List.{AllByRecursion, list_all, list_any, slice_split, starts_with}
use Rattle.std.specs.Ordering.{match_ordering, nat_cmp}
use Rattle.std.specs.Str.{bytes_eq}
use Rattle.std.specs.declared.cmp.Ordering.{Ordering}
use Rattle.keep_docs.specs.Lists.{each}
use Rattle.keep_tree.specs.Names.{is_name}
use Rattle.keep_reach.specs.Reach.{most_levels}
use Rattle.keep_plan.specs.declared.plan_error.PlanError.{PlanError}
use Rattle.keep_plan.specs.declared.plan_error.PlanError.TheVariants.{BadPath, SamePathTwice}

-- a path: its names from the root on
abbrev pub Path : Type 0
Path = List (List ℕ)

-- a file: its path and its bytes
abbrev pub FileData : Type 0
FileData = Path × List ℕ

-- its path
abbrev pub path_of : FileData → Path
path_of file = file.0

-- `/`
abbrev pub is_slash : ℕ → Bool
is_slash c = c == 47

-- the names between the slashes of a text, if a node can have each of them
abbrev pub names_between : List ℕ → Option Path
names_between text =
    if list_all is_name (slice_split is_slash text) then Some (slice_split is_slash text) else None

-- the names of an absolute path: `/`, and names with `/` between them (POSIX, "Pathname")
abbrev pub components_of : List ℕ → Option Path
components_of [] = None
components_of (c ∷ text) = if is_slash c then names_between text else None

-- whether the second path is the first, or lies below it
abbrev pub is_front : Path → Path → Bool
is_front p q = starts_with bytes_eq q p

-- whether the two can't both be paths of files: they are one, or one lies below the other
abbrev pub do_clash : Path → Path → Bool
do_clash p q = is_front p q || is_front q p

-- whether two of the paths can't
abbrev pub any_clash : List Path → Bool
any_clash [] = false
any_clash (p ∷ ps) = list_any (do_clash p) ps || any_clash ps

-- whether a file of this path stands in a tree that is too deep: its k-th name stands in a tree at level k
abbrev pub is_too_deep : Path → Bool
is_too_deep path = nat_lt most_levels (length path)

-- by names from the root on, and these by bytes
abbrev pub path_cmp : Path → Path → Ordering
path_cmp = slice_cmp (slice_cmp nat_cmp)

-- the files in the order of their paths
unfoldable pub by_path : List FileData → List FileData
by_path files = entries (from_entries {R = path_cmp} files)

-- a file whose path is a text
abbrev pub given_file : List ℕ × List ℕ → Option FileData
given_file given = option_map (λ path. (path, given.1)) (components_of given.0)

-- the files in the order of their paths, if no two of these clash
abbrev pub without_clash : Option (List FileData) → Result (List FileData) PlanError
without_clash None = Err BadPath
without_clash (Some files) = if any_clash (map path_of files) then Err SamePathTwice else Ok (by_path files)

-- the files that are given by texts and bytes, in the order of their paths, or why there are none
unfoldable pub files_in_order : List (List ℕ × List ℕ) → Result (List FileData) PlanError
files_in_order given = without_clash (each given_file given)

-- ---- the order of paths

-- whether the paths differ at a name that both have, and the first stands before the second there
abbrev pub stands_before : Path → Path → Bool
stands_before [] q = false
stands_before (x ∷ p) [] = false
stands_before (x ∷ p) (y ∷ q) = match_ordering (slice_cmp nat_cmp x y) true (stands_before p q) false

-- each path stands before all later ones: so none is another's front
abbrev pub StandInOrder : List Path → Type 0
StandInOrder [] = Unit {0}
StandInOrder (p ∷ ps) = AllByRecursion (λ q. stands_before p q ≡ true) ps × StandInOrder ps

-- each of the paths has a name, and none has more than this many
abbrev pub HaveNames : ℕ → List Path → Type 0
HaveNames levels = AllByRecursion (λ path. (0 < length path) × (length path ≤ levels))

-- each of the paths has a name
abbrev pub AreNamed : List Path → Type 0
AreNamed = AllByRecursion (λ path. 0 < length path)

-- the paths have one first name
abbrev pub HaveOneName : List Path → Type 0
HaveOneName [] = Unit {0}
HaveOneName (p ∷ ps) = AllByRecursion (λ q. slice_get q 0 ≡ slice_get p 0) ps

-- the first of the second list has another first name than the first of the first
abbrev pub HasOtherName : List Path → List Path → Type 0
HasOtherName [] qs = Unit {0}
HasOtherName (p ∷ ps) [] = Unit {0}
HasOtherName (p ∷ ps) (q ∷ qs) = slice_get q 0 ≢ slice_get p 0
