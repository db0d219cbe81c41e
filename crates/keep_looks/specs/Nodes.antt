-- What is shown of the nodes of a snapshot, and of how two snapshots differ.
use Rattle.std.specs.Prelude.{ℕ, ◌^◌, ℤ, List, [], ◌∷◌, map, codes, Option, None, Some, option_map, Result, Ok, Err, string_bytes, unwrap_or, if◌then◌else◌}
use Rattle.std.specs.Fmt.{decimal}
use Rattle.keep_names.specs.declared.id.Id.{Id}
use Rattle.keep_repo.specs.Repository.{Repository}
use Rattle.keep_tree.specs.Tree.{KindData}
use Rattle.keep_members.specs.Found.{FoundData, found_in}
use Rattle.keep_members.specs.Stamp.{StampData}
use Rattle.keep_read.specs.declared.restore_error.RestoreError.{RestoreError}
use Rattle.keep_nodes.specs.Choosing.{nodes_below}
use Rattle.keep_nodes.specs.Entries.{EntryData}
use Rattle.keep_nodes.specs.Listed.{nodes_due}
use Rattle.keep_nodes.specs.Tallies.{is_file, is_folder, tally_of}
use Rattle.keep_nodes.specs.Differences.{DifferenceData, added, changed, differences, removed}
use Rattle.keep_rows.specs.declared.difference.Difference.{Difference}
use Rattle.keep_rows.specs.declared.difference.Difference.TheVariants.{Added, Removed, Modified}
use Rattle.keep_rows.specs.declared.difference.DifferenceRow.{DifferenceRow}
use Rattle.keep_rows.specs.declared.node_row.NodeRow.{NodeRow}
use Rattle.keep_rows.specs.declared.when.When.{When}

-- ---- nodes

-- what a row says of a node, but for the clock of the zone
pub record NodeShown : Type 0 where
  pub mode : ℕ
  pub owner : List ℕ
  pub size : Option ℕ
  pub moment : Option ℤ
  pub path : List ℕ
  pub target : Option (List ℕ)

abbrev pub moment_at : Option When → Option ℤ
moment_at at = option_map (λ (w : When). w.moment) at

-- what a `NodeRow` says
abbrev pub node_shown : NodeRow → NodeShown
node_shown row = record {
  mode = row.mode;
  owner = string_bytes row.owner;
  size = row.size;
  moment = moment_at row.at;
  path = string_bytes row.path;
  target = option_map string_bytes row.target;
}

-- the bits of Go's os.FileMode: where a node says none those of a folder or of a file that no one has a right to
abbrev pub mode_due : KindData → Option ℕ → ℕ
mode_due kind said = unwrap_or said (if is_folder kind then 2 ^ 31 else 0)

-- whose it is: the user's name, or else the number of the user
abbrev pub owner_due : Option (List ℕ) → Option ℕ → List ℕ
owner_due (Some user) uid = user
owner_due None (Some uid) = decimal uid
owner_due None None = []

-- how many bytes a file says that it has, or else its pieces have
abbrev pub size_due : Repository → Option ℕ → EntryData → Option ℕ
size_due r said entry =
    if is_file entry.node.kind then Some (unwrap_or said (tally_of r (entry ∷ [])).bytes) else None

abbrev pub second_of : Option StampData → Option ℤ
second_of stamp = option_map (λ (s : StampData). s.seconds) stamp

-- the row of a node whose members say this
abbrev pub node_with : Repository → FoundData → EntryData → NodeShown
node_with r found entry = record {
  mode = mode_due entry.node.kind found.mode;
  owner = owner_due found.user found.uid;
  size = size_due r found.size entry;
  moment = second_of found.mtime;
  path = entry.path;
  target = found.link_target;
}

-- the row of a node
abbrev pub node_due : Repository → EntryData → NodeShown
node_due r entry = node_with r (found_in entry.node.others) entry

-- the rows of the nodes at a path and below it
abbrev pub nodes_shown : Repository → List ℕ → List EntryData → List NodeShown
nodes_shown r path entries = map (node_due r) (nodes_below path entries)

abbrev pub shown_by : Repository → List ℕ → Result (List EntryData) RestoreError → Result (List NodeShown) RestoreError
shown_by r path (Ok entries) = Ok (nodes_shown r path entries)
shown_by r path (Err why) = Err why

-- what the snapshot has at a path and below it, all of it where no path is given; or why it can't be listed
abbrev pub node_rows_due : Repository → Id → Option (List ℕ) → Result (List NodeShown) RestoreError
node_rows_due r snapshot path = shown_by r (unwrap_or path (codes "/")) (nodes_due r snapshot)

-- ---- differences

pub record DifferenceShown : Type 0 where
  pub difference : Difference
  pub path : List ℕ

-- what a `DifferenceRow` says
abbrev pub difference_shown : DifferenceRow → DifferenceShown
difference_shown row = record { difference = row.difference; path = string_bytes row.path }

-- the row of a difference
abbrev pub difference_due : DifferenceData → DifferenceShown
difference_due (added new) = record { difference = Added; path = new.path }
difference_due (removed old) = record { difference = Removed; path = old.path }
difference_due (changed old new) = record { difference = Modified; path = new.path }

abbrev pub differing : List EntryData → List EntryData → List DifferenceShown
differing old new = map difference_due (differences old new)

abbrev pub differing_from : List EntryData → Result (List EntryData) RestoreError → Result (List DifferenceShown) RestoreError
differing_from old (Ok new) = Ok (differing old new)
differing_from old (Err why) = Err why

abbrev pub differing_by : Result (List EntryData) RestoreError → Result (List EntryData) RestoreError → Result (List DifferenceShown) RestoreError
differing_by (Ok old) new = differing_from old new
differing_by (Err why) new = Err why

-- how the one snapshot differs from the other, in the byte order of paths; or why the one, or else the other, can't be
-- listed
abbrev pub difference_rows_due : Repository → Id → Id → Result (List DifferenceShown) RestoreError
difference_rows_due r old new = differing_by (nodes_due r old) (nodes_due r new)
