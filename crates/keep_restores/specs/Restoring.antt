-- What is put back of a snapshot.
use Rattle.std.specs.Prelude.{◌≡◌, List, Ok, map}
use Rattle.std.specs.List.{AllZip}
use Rattle.keep_names.specs.BlobId.{piece_of}
use Rattle.keep_names.specs.declared.id.Id.{Id}
use Rattle.keep_nodes.specs.Entries.{EntryData, entry_view}
use Rattle.keep_nodes.specs.Listed.{whole_nodes_due}
use Rattle.keep_nodes.specs.declared.path_node.PathNode.{PathNode}
use Rattle.keep_putting.specs.Filling.{Source}
use Rattle.keep_putting.specs.Putting.{IsRestored}
use Rattle.keep_putting.specs.declared.restored.Restored.{Restored}
use Rattle.keep_putting.specs.declared.wanted.Wanted.{Wanted}
use Rattle.keep_read.specs.Contents.{bytes_of}
use Rattle.keep_repo.specs.Repository.{Repository}
use Rattle.keep_restores.specs.Choosing.{included}
use Rattle.keep_targets.specs.Call.{Call}
use Rattle.keep_targets.specs.declared.attributes.Owner.{Owner}
use Rattle.keep_patterns.specs.Parsing.{PatternData}
use Rattle.keep_restores.specs.Wanted.{IsWantedOf}

-- the bytes of each piece at its chosen place
abbrev pub pieces_in : Repository → Source
pieces_in r id = bytes_of r (piece_of id)

-- the snapshot can be had whole, and of its nodes those that are asked for were put back, from the repository's pieces
pub record IsPutBack (r : Repository) (snapshot : Id) (include : List PatternData) (caller : Owner) (calls : List Call) (told : Restored) : Type 0 where
  pub nodes : List EntryData
  pub entries : List PathNode
  pub wanted : List Wanted
  pub had : whole_nodes_due r snapshot ≡ Ok nodes
  pub chosen : map entry_view entries ≡ included include nodes
  pub meant : AllZip IsWantedOf entries wanted
  pub done : IsRestored (pieces_in r) caller wanted calls told
