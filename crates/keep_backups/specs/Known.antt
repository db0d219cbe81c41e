-- What is known of a file that a snapshot has.
use Rattle.std.specs.Prelude.{ℕ, Bool, List, [], ◌∷◌, Option, None, Some, Result, Ok, Err, String, option_map, if◌then◌else◌}
use Rattle.std.specs.HashMap.{HashMap, get_by_text}
use Rattle.std.specs.Option.{option_eq, option_or}
use Rattle.std.specs.Str.{bytes_eq}
use Rattle.keep_members.specs.Found.{FoundData, found_in}
use Rattle.keep_members.specs.Stamp.{StampData}
use Rattle.keep_names.specs.declared.id.Id.{Id}
use Rattle.keep_nodes.specs.Entries.{EntryData}
use Rattle.keep_nodes.specs.Listed.{nodes_due}
use Rattle.keep_read.specs.declared.restore_error.RestoreError.{RestoreError}
use Rattle.keep_repo.specs.Repository.{Repository}
use Rattle.keep_sources.specs.declared.scope.Known as known
use Rattle.keep_tree.specs.Tree.{NodeData, KindData, dir, file, other}
use Rattle.keep_backups.specs.Paths.{source_path}

-- what is known of a file: its size, its time and its pieces
pub record KnownData : Type 0 where
  pub size : ℕ
  pub mtime : StampData
  pub content : List Id

-- what a `Known` says
abbrev pub known_view : known.Known → KnownData
known_view k = record {
  size = k.size;
  mtime = record { seconds = k.mtime.seconds; nanoseconds = k.mtime.nanoseconds };
  content = k.content.items;
}

-- what is known of a file of these pieces, where it says its size and its time
abbrev pub of_times : List Id → Option ℕ → Option StampData → Option KnownData
of_times content None mtime = None
of_times content (Some size) None = None
of_times content (Some size) (Some mtime) = Some (record { size = size; mtime = mtime; content = content })

-- what is known of a node of this kind: nothing where it is no file
abbrev pub of_kind : KindData → FoundData → Option KnownData
of_kind (dir subtree) found = None
of_kind (file content) found = of_times content found.size found.mtime
of_kind (other type_name) found = None

-- what is known of a node
abbrev pub known_due : NodeData → Option KnownData
known_due node = of_kind node.kind (found_in node.others)

-- what is known at a path, by a map of files by their paths
abbrev pub known_at : {A S : Type 0} → HashMap (String A) known.Known S → List ℕ → Option KnownData
known_at files path = option_map known_view (get_by_text files path)

-- whether a node lies at this path below the root of a source
abbrev pub lies_at : List ℕ → EntryData → Bool
lies_at path entry = option_eq bytes_eq (source_path entry.path) (Some path)

-- what is known at a path, where a node comes behind those by which this is known
abbrev pub known_with : Option KnownData → List ℕ → EntryData → Option KnownData
known_with before path entry = if lies_at path entry then option_or (known_due entry.node) before else before

-- what is known at a path by nodes, behind those by which this is known: the last one that lies there and tells it
abbrev pub known_behind : Option KnownData → List ℕ → List EntryData → Option KnownData
known_behind before path [] = before
known_behind before path (entry ∷ more) = known_behind (known_with before path entry) path more

-- what is known at a path by the nodes of a snapshot; nothing where they can't be listed
abbrev pub known_by : Result (List EntryData) RestoreError → List ℕ → Option KnownData
known_by (Ok entries) path = known_behind None path entries
known_by (Err why) path = None

-- what is known at a path by a snapshot
abbrev pub known_of : Repository → Id → List ℕ → Option KnownData
known_of r snapshot path = known_by (nodes_due r snapshot) path
