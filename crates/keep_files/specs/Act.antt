-- A tree as a value: what stands there, what was done, and how many calls failed.
use Rattle.std.specs.Prelude.{◌≡◌, ◌≢◌, ℕ, ◌⊎◌, None, Some, false, IsTrue, List, [], ◌∷◌, ◌++◌}
use Rattle.keep_shelf.specs.Shelved.{risen}
use Rattle.keep_files.specs.Stands.{HasHome, Stands, is_file, is_folder, moved, put_at}
use Rattle.keep_files.specs.declared.tree_error.TreeError.{TreeError}
use Rattle.keep_files.specs.declared.tree_error.TreeError.TheVariants.{Broken, Unknown}
use Rattle.keep_files.specs.declared.node.Node.TheVariants.{Folder, File}

-- what can be done with a tree, by paths
pub data Act : Type 0 where
  -- a file was written with these bytes, and they outlast a loss of power
  Wrote : List ℕ → List ℕ → Act
  -- what stood at the first path was put at the second
  Renamed : List ℕ → List ℕ → Act
  -- what stood there was taken away
  Removed : List ℕ → Act
  -- a folder was made
  Made : List ℕ → Act
  -- the names in a folder were synced: from then on they outlast a loss of power
  Synced : List ℕ → Act

pub record Seen : Type 0 where
  -- what stands at each path
  pub stands : Stands
  -- what was done, in order
  pub acts : List Act
  -- how many calls failed, up to a last value
  pub failures : ℕ

-- what stands after an act
abbrev pub after : Stands → Act → Stands
after stands (Wrote path bytes) = put_at stands path (Some (File bytes))
after stands (Renamed from to) = moved stands from to
after stands (Removed path) = put_at stands path None
after stands (Made path) = put_at stands path (Some Folder)
after stands (Synced path) = stands

-- What a tree does: it puts nothing over what stands there, but for a file in the place of a file, and nothing where no
-- folder holds it; and it moves and takes away no folder.
abbrev pub CanDo : Stands → Act → Type 0
CanDo stands (Wrote path bytes) = (stands path ≡ None) × HasHome stands path
CanDo stands (Renamed from to) = (from ≢ to) × IsTrue (is_file (stands from)) × (is_folder (stands to) ≡ false) × HasHome stands to
CanDo stands (Removed path) = is_folder (stands path) ≡ false
CanDo stands (Made path) = (stands path ≡ None) × HasHome stands path
CanDo stands (Synced path) = Unit {0}

-- the act was done, and is noted
abbrev pub done : Seen → Act → Seen
done s act = record s { stands = after s.stands act; acts = s.acts ++ act ∷ [] }

-- a call failed: it is counted, and all else stays
abbrev pub failed : Seen → Seen
failed s = record s { failures = risen s.failures }

-- the act may have been done, and its call failed
abbrev pub MayHaveDone : Seen → Act → Seen → Type 0
MayHaveDone old act new = CanDo old.stands act × (new ≡ failed (done old act))

-- The act failed, and it wasn't done, or it isn't known whether it was. Of a file that was to be written another part
-- may stand then.
abbrev pub HasFailed : Seen → Act → TreeError → Seen → Type 0
HasFailed old act Broken new = new ≡ failed old
HasFailed old (Wrote path bytes) Unknown new = (new ≡ failed old) ⊎ ((written : List ℕ) × MayHaveDone old (Wrote path written) new)
HasFailed old act Unknown new = (new ≡ failed old) ⊎ MayHaveDone old act new
