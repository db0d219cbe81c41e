-- How many nodes there are of each kind, and how many bytes their files have.
use Rattle.std.specs.Prelude.{ℕ, ◌+◌, ◌-◌, ◌^◌, Bool, true, false, List, [], ◌∷◌, count_by, min}
use Rattle.keep_names.specs.declared.id.Id.{Id}
use Rattle.keep_repo.specs.Repository.{Repository}
use Rattle.keep_tree.specs.Tree.{KindData, dir, file, other}
use Rattle.keep_nodes.specs.Entries.{EntryData}
use Rattle.keep_nodes.specs.Lengths.{piece_length}
use Rattle.keep_nodes.specs.declared.tally.Tally.{Tally}

abbrev pub is_file : KindData → Bool
is_file (file content) = true
is_file (dir subtree) = false
is_file (other type_name) = false

abbrev pub is_folder : KindData → Bool
is_folder (file content) = false
is_folder (dir subtree) = true
is_folder (other type_name) = false

abbrev pub is_other : KindData → Bool
is_other (file content) = false
is_other (dir subtree) = false
is_other (other type_name) = true

-- how many bytes the pieces have together
abbrev pub content_length : Repository → List Id → ℕ
content_length r [] = 0
content_length r (id ∷ ids) = piece_length r id + content_length r ids

-- how many bytes a file has; any other node has none
abbrev pub kind_length : Repository → KindData → ℕ
kind_length r (file content) = content_length r content
kind_length r (dir subtree) = 0
kind_length r (other type_name) = 0

-- how many bytes the files have together, each counted at each of its paths
abbrev pub bytes_of : Repository → List EntryData → ℕ
bytes_of r [] = 0
bytes_of r (e ∷ es) = kind_length r e.node.kind + bytes_of r es

-- the most that 64 bits tell
abbrev pub at_most : ℕ → ℕ
at_most n = min n (2 ^ 64 - 1)

-- how many nodes there are of each kind, by path, and the bytes of the files
unfoldable pub tally_of : Repository → List EntryData → Tally
tally_of r entries = record {
  files = count_by (λ (e : EntryData). is_file e.node.kind) entries;
  folders = count_by (λ (e : EntryData). is_folder e.node.kind) entries;
  others = count_by (λ (e : EntryData). is_other e.node.kind) entries;
  bytes = at_most (bytes_of r entries);
}
