-- What a restore gives, by the nodes that are listed.
use Rattle.std.specs.Prelude.{◌≡◌, ℕ, List, [], ◌∷◌, None, Some, Result, Ok, Err}
use Rattle.std.specs.List.{flat_map}
use Rattle.keep_names.specs.declared.id.Id.{Id}
use Rattle.keep_repo.specs.Repository.{Repository}
use Rattle.keep_tree.specs.Tree.{KindData, dir, file, other}
use Rattle.keep_read.specs.Contents.{ContentData, contents_at, joined}
use Rattle.keep_read.specs.Restored.{RestoredData, restored, restored_of}
use Rattle.keep_read.specs.declared.restore_error.RestoreError.{RestoreError}
use Rattle.keep_nodes.specs.Entries.{EntryData, entries_at}
use Rattle.keep_nodes.specs.Listed.{nodes_due, whole_nodes_due}

-- what a restore has of a node of this kind at a path: nothing of a folder, the bytes of a file, and that any other
-- is skipped
abbrev pub content_at : Repository → List ℕ → KindData → List ContentData
content_at r path (dir subtree) = []
content_at r path (file content) = (path, Some (joined r content)) ∷ []
content_at r path (other type_name) = (path, None) ∷ []

-- what a restore has of a listed node
abbrev pub content_of : Repository → EntryData → List ContentData
content_of r entry = content_at r entry.path entry.node.kind

-- what a restore gives of listed nodes
abbrev pub restored_by : Repository → Result (List EntryData) RestoreError → Result RestoredData RestoreError
restored_by r (Ok entries) = Ok (restored_of (flat_map (content_of r) entries))
restored_by r (Err why) = Err why

-- what stands below a tree are the files and the skipped nodes among what is listed below it, in their order
abbrev pub ContentsAreListed : Type 0
ContentsAreListed =
    (r : Repository) (levels : ℕ) (tree : Id)
    → contents_at r levels tree ≡ flat_map (content_of r) (entries_at r levels tree)

-- a restore gives the files of the whole nodes, and is refused where these are
abbrev pub RestoresWhatIsListed : Type 0
RestoresWhatIsListed = (r : Repository) (snapshot : Id) → restored r snapshot ≡ restored_by r (whole_nodes_due r snapshot)

-- what can be restored whole is listed by its trees alone as well, the same
abbrev pub WholeIsListed : Type 0
WholeIsListed =
    (r : Repository) (snapshot : Id) (entries : List EntryData)
    → whole_nodes_due r snapshot ≡ Ok entries → nodes_due r snapshot ≡ Ok entries
