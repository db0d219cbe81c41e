-- What stands below a tree, by path (restic's design document, "Trees and Data").
use Rattle.std.specs.Prelude.{ℕ, zero, suc, List, [], ◌∷◌, ◌++◌, map, Option, None, Some, unwrap_or, string_bytes, codes}
use Rattle.std.specs.List.{flat_map}
use Rattle.std.specs.Option.{option_and_then, option_map}
use Rattle.std.specs.Result.{result_ok}
use Rattle.keep_names.specs.declared.blob.BlobId.{BlobId}
use Rattle.keep_names.specs.declared.id.Id.{Id}
use Rattle.keep_repo.specs.Repository.{Repository}
use Rattle.keep_tree.specs.Tree.{KindData, dir, file, other, NodeData}
use Rattle.keep_names.specs.BlobId.{piece_of}
use Rattle.keep_catalog.specs.Naming.{nodes_under}
use Rattle.keep_catalog.specs.Places.{bytes_at, chosen_listing}
use Rattle.keep_read.specs.declared.content.Content.{Content}

-- what stands at a path: a file's bytes, and nothing for a node that is skipped
abbrev pub ContentData : Type 0
ContentData = List ℕ × Option (List ℕ)

-- what a `Content` says
abbrev pub content_view : Content → ContentData
content_view content = (string_bytes content.path, option_map (λ bytes. bytes.items) content.bytes)

-- with a path in front
abbrev pub under : List ℕ → ContentData → ContentData
under front content = (front ++ content.0, content.1)

-- the bytes of the blob at its chosen place; none where it has none
abbrev pub bytes_of : Repository → BlobId → Option (List ℕ)
bytes_of r blob = option_and_then (λ e. bytes_at r e.0) (chosen_listing r blob)

-- the bytes of a piece of a file
abbrev pub piece_bytes : Repository → Id → List ℕ
piece_bytes r piece = unwrap_or (bytes_of r (piece_of piece)) []

-- the pieces of a file, joined in their order
unfoldable pub joined : Repository → List Id → List ℕ
joined r content = flat_map (piece_bytes r) content

-- the nodes of a tree; none where it can't be had
unfoldable pub nodes_in : Repository → Id → List NodeData
nodes_in r tree = unwrap_or (result_ok (nodes_under r tree)) []

-- what a node has at and below itself: a file its bytes, a folder what is below its tree; and a node of any
-- other type is skipped
abbrev pub contents_in : Repository → (Id → List ContentData) → KindData → List ContentData
contents_in r below (dir subtree) = below subtree
contents_in r below (file content) = ([], Some (joined r content)) ∷ []
contents_in r below (other type_name) = ([], None) ∷ []

-- what a node has at and below itself, by the path from the folder: `/`, the node's name, and on from there
abbrev pub contents_of : Repository → (Id → List ContentData) → NodeData → List ContentData
contents_of r below node = map (under (codes "/" ++ node.name)) (contents_in r below node.kind)

-- what stands below a tree with so many levels of trees, by the path from there
abbrev pub contents_at : Repository → ℕ → Id → List ContentData
contents_at r zero tree = []
contents_at r (suc levels) tree = flat_map (contents_of r (contents_at r levels)) (nodes_in r tree)
