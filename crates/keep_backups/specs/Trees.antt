-- The nodes that a backup has of what its walk met.
use Rattle.std.specs.Prelude.{◌≡◌, ◌⊎◌, ℕ, List, [], ◌∷◌, ◌++◌, map, All, Contains}
use Rattle.std.specs.List.{flat_map}
use Rattle.keep_backup.specs.Walk.{pieces_of}
use Rattle.keep_build.specs.Blobs.{id_of, tree_blob}
use Rattle.keep_catalog.specs.Naming.{named_in}
use Rattle.keep_members.specs.Carried.{IsCarried}
use Rattle.keep_names.specs.declared.blob.BlobId.{BlobId}
use Rattle.keep_quoted.specs.Quote.{quoted}
use Rattle.keep_sources.specs.Limits.{most_levels}
use Rattle.keep_sources.specs.Met.{Leaf, Excluded, Missed, Other, Same, Whole, Broken, Met, End, Then, Inside, names_of, sized, skips_of, total, unsaid}
use Rattle.keep_sources.specs.Told.{Told}
use Rattle.keep_sources.specs.Took.{IsMet, listed_names, skip_view}
use Rattle.keep_sources.specs.declared.scope.Scope.{Scope}
use Rattle.keep_sources.specs.declared.stat.Stat.{Stat}
use Rattle.keep_sources.specs.declared.skipped.Skipped.{Skipped}
use Rattle.keep_sources.specs.declared.skipped.Why.{Why}
use Rattle.keep_sources.specs.declared.source.FolderListing.{FolderListing}
use Rattle.keep_tree.specs.Tree.{KindData, NodeData, dir, file, other}
use Rattle.keep_backups.specs.Sighted.{sighted, type_name_of}

-- just one node: of this name, as a tree has it, and of this kind. It says what was seen, and names blobs that are kept.
pub record IsOne (kept : List BlobId) (name : List ℕ) (kind : KindData) (sight : Stat) (nodes : List NodeData) : Type 0 where
  pub node : NodeData
  pub alone : nodes ≡ node ∷ []
  pub named : node.name ≡ quoted name
  pub is : node.kind ≡ kind
  pub says : IsCarried (sighted sight) node.others
  pub blobs : All (Contains kept) (named_in kind)

-- The node of a name that isn't a folder's, or none of what wasn't taken. A file that was read has the pieces of its
-- bytes, and one that an earlier backup has has that one's.
abbrev pub AreNodesOfLeaf : ℕ → List BlobId → List ℕ → Leaf → List NodeData → Type 0
AreNodesOfLeaf cut kept name Excluded nodes = nodes ≡ []
AreNodesOfLeaf cut kept name (Missed why) nodes = nodes ≡ []
AreNodesOfLeaf cut kept name (Other sight) nodes = IsOne kept name (other (type_name_of sight.kind)) sight nodes
AreNodesOfLeaf cut kept name (Same sight content) nodes = IsOne kept name (file content) sight nodes
AreNodesOfLeaf cut kept name (Whole sight pieces) nodes =
    IsOne kept name (file (map id_of (pieces_of cut (flat_map (λ (p : List ℕ). p) pieces)))) (sized sight (total pieces)) nodes
AreNodesOfLeaf cut kept name (Broken sight pieces why) nodes = nodes ≡ []

-- The nodes of all that was met in a folder, in its order, and no others. A folder has the tree of just the nodes that
-- were met in it.
abbrev pub AreNodesOf : ℕ → List BlobId → Met → List NodeData → Type 0
AreNodesOf cut kept End nodes = nodes ≡ []
AreNodesOf cut kept (Then name leaf rest) nodes =
    (first : List NodeData) × (more : List NodeData) × (nodes ≡ first ++ more) × AreNodesOfLeaf cut kept name leaf first
    × AreNodesOf cut kept rest more
AreNodesOf cut kept (Inside name sight unsayable inside rest) nodes =
    (first : List NodeData) × (more : List NodeData) × (inner : List NodeData) × (nodes ≡ first ++ more)
    × AreNodesOf cut kept inside inner × IsOne kept name (dir (id_of (tree_blob inner))) sight first × AreNodesOf cut kept rest more

-- a listing of the root was met so, these are the nodes of that, and this is named
pub record IsListed (told : Told) (job : Scope) (cut : ℕ) (kept : List BlobId) (listing : FolderListing) (nodes : List NodeData)
    (skips : List Skipped) : Type 0 where
  pub met : Met
  pub is : IsMet told job most_levels [] met
  pub all : names_of met ≡ listed_names listing
  pub has : AreNodesOf cut kept met nodes
  pub named : map skip_view skips ≡ unsaid [] listing.unsayable ++ skips_of [] met

-- The nodes are those of all that a walk met below the root of the source, as it told it, and what isn't among them, or
-- not as it was seen, is named. Each blob that they name is kept. A root that can't be listed is named, and there is no node.
abbrev pub IsTreeOf : Told → Scope → ℕ → List BlobId → List NodeData → List Skipped → Type 0
IsTreeOf told job cut kept nodes skips =
    ((listing : FolderListing) × told.listed [] listing × IsListed told job cut kept listing nodes skips)
    ⊎ ((why : Why) × told.lost [] why × (nodes ≡ []) × (map skip_view skips ≡ ([], why) ∷ []))
