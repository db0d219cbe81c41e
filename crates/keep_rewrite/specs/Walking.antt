-- What a walk over trees remembers, and what is right of it.
use Rattle.std.specs.Prelude.{◌≡◌, ℕ, List, map, None, Some}
use Rattle.std.specs.BTreeMap as tree
use Rattle.std.specs.List.{AllByRecursion}
use Rattle.std.specs.Ordering.{ordering_then}
use Rattle.std.specs.Str.{chars}
use Rattle.std.specs.declared.cmp.Ordering.{Ordering}
use Rattle.keep_names.specs.BlobId.{tree_at}
use Rattle.keep_names.specs.Orders.{id_cmp}
use Rattle.keep_names.specs.declared.id.Id.{Id}
use Rattle.keep_repo.specs.Repository.{Repository}
use Rattle.keep_patterns.specs.Parsing.{PatternData}
use Rattle.keep_patterns.specs.RestOrder.{rests_cmp}
use Rattle.keep_patterns.specs.Rests.{left_at}
use Rattle.keep_patterns.specs.declared.rest.Rest.{Rest}
use Rattle.keep_snap.specs.Facts.{FactsData}
use Rattle.keep_catalog.specs.Naming.{named_by}
use Rattle.keep_reach.specs.Reach.{refusal_at}
use Rattle.keep_reach.specs.Snapshots.{refusal_from}
use Rattle.keep_build.specs.Blobs.{BlobData}
use Rattle.keep_build.specs.Storing.{given}
use Rattle.keep_rewrite.specs.Finishing.{HasBlobData}
use Rattle.keep_rewrite.specs.Leaving.{Path, finished, loses, tree_left}
use Rattle.keep_rewrite.specs.declared.left.Left.{Left}
use Rattle.keep_rewrite.specs.declared.left.Walked.{Walked}

-- a tree, and what is left open of the patterns where it stands
abbrev pub Asked : Type 0
Asked = Id × List Rest

-- by tree, and then by what is left open
abbrev pub asked_cmp : Asked → Asked → Ordering
asked_cmp x y = ordering_then (id_cmp x.0 y.0) (rests_cmp x.1 y.1)

-- the path leaves just this open
abbrev pub Leaves : List PatternData → List Rest → Path → Type 0
Leaves patterns rests at = rests ≡ left_at patterns (map chars at)

-- the trees that the walk has finished
abbrev pub trees_of : Walked → List BlobData
trees_of walked = map given walked.finished.items

-- this is left of the tree, at each path that leaves this open
abbrev pub IsLeft : Repository → List PatternData → ℕ → List Rest → Id → Left → Type 0
IsLeft r patterns levels rests tree left =
    (at : Path) → Leaves patterns rests at
    → (left.loses ≡ loses r patterns levels at tree) × (left.tree ≡ tree_left r patterns levels at tree)

-- and the trees that are written anew for that are among those that the walk has finished
abbrev pub AreFinished : Repository → List PatternData → ℕ → List Rest → Id → List BlobData → Type 0
AreFinished r patterns levels rests tree trees =
    (at : Path) → Leaves patterns rests at
    → (b : BlobData) → HasBlobData (finished r patterns levels at tree) b → HasBlobData trees b

-- What is remembered of a tree is right, wherever the tree stands and however many levels there are, if it isn't
-- refused there.
pub record IsKnown (r : Repository) (patterns : List PatternData) (walked : Walked) (asked : Asked) (left : Left)
    : Type 0 where
  pub left_so : (levels : ℕ) → refusal_at (named_by r) levels (tree_at asked.0) ≡ None
      → IsLeft r patterns levels asked.1 asked.0 left
  pub trees_so : (levels : ℕ) → refusal_at (named_by r) levels (tree_at asked.0) ≡ None
      → AreFinished r patterns levels asked.1 asked.0 (trees_of walked)

-- all that is remembered is right
pub record IsRight (r : Repository) (patterns : List PatternData) (walked : Walked) : Type 0 where
  pub each : (asked : Asked) (left : Left) → tree.get asked_cmp walked.left asked ≡ Some left
      → IsKnown r patterns walked asked left

-- all that these snapshots reach can be had
abbrev pub AreReached : Repository → List FactsData → Type 0
AreReached r taken = AllByRecursion (λ s. refusal_from r (tree_at s.tree) ≡ None) taken
