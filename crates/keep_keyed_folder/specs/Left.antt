-- What the acts of a folder of keys leave, by paths.
use Rattle.std.specs.Prelude.{◌≡◌, ◌≢◌, ℕ, ◌⊎◌, None, Some, Result, Ok, Err, List}
use Rattle.keep_paths.specs.Folder.{LiesIn}
use Rattle.keep_files.specs.Stands.{Stands, put_at}
use Rattle.keep_files.specs.declared.tree_error.TreeError.{TreeError}
use Rattle.keep_files.specs.declared.tree_error.TreeError.TheVariants.{Broken, Unknown}
use Rattle.keep_files.specs.declared.node.Node.TheVariants.{Folder, File}

-- how an act ends: it was done, it wasn't, or it isn't known which of the two
abbrev pub EndsAs : {A : Type 0} → Result A TreeError → Type 0 → Type 0 → Type 0
EndsAs (Ok _) Done Undone = Done
EndsAs (Err Broken) Done Undone = Undone
EndsAs (Err Unknown) Done Undone = Undone ⊎ Done

-- what stands at q is the same, or a folder above the path, made where nothing stood
abbrev pub IsSameOrMade : Stands → Stands → List ℕ → List ℕ → Type 0
IsSameOrMade before after path q = (after q ≡ before q) ⊎ (LiesIn path q × (before q ≡ None) × (after q ≡ Some Folder))

-- nothing changed but folders above the path, which were made where nothing stood
abbrev pub IsWidened : Stands → Stands → List ℕ → Type 0
IsWidened before after path = (q : List ℕ) → IsSameOrMade before after path q

-- so it is but for the file that is under way
abbrev pub IsLeft : Stands → Stands → List ℕ → List ℕ → Type 0
IsLeft before after path tmp = (q : List ℕ) → q ≢ tmp → IsSameOrMade before after path q

-- a file was put at the path, and the file that was under way is gone
pub record IsPut (before after : Stands) (path bytes tmp : List ℕ) : Type 0 where
  pub file : after path ≡ Some (File bytes)
  pub tmp_is_free : after tmp ≡ None
  pub others : (q : List ℕ) → q ≢ path → q ≢ tmp → IsSameOrMade before after path q

-- the file at the first path was put at the second
pub record IsShifted (before after : Stands) (from to : List ℕ) : Type 0 where
  pub file : after to ≡ before from
  pub gone : after from ≡ None
  pub others : (q : List ℕ) → q ≢ from → q ≢ to → IsSameOrMade before after to q

-- the file at the path was taken away
abbrev pub IsTaken : Stands → Stands → List ℕ → Type 0
IsTaken before after path = after ≡ put_at before path None
