-- Files that are kept by their ids, those of each kind apart.
use Rattle.std.specs.Prelude.{ℕ, ◌<◌, ◌^◌, List, ◌++◌, map}
use Rattle.std.specs.FinMap.{FinMap, from_entries, len}
use Rattle.keep_names.specs.FileName.{named}
use Rattle.keep_names.specs.Orders.{id_cmp, name_cmp}
use Rattle.keep_names.specs.declared.file_name.FileName.{FileName}
use Rattle.keep_names.specs.declared.file_name.Kind.{Kind}
use Rattle.keep_names.specs.declared.file_name.Kind.TheVariants.{Pack, Index, Snapshot}
use Rattle.keep_names.specs.declared.id.Id.{Id}

-- the files of one kind, by id
abbrev pub by_id : List (Id × List ℕ) → FinMap id_cmp (List ℕ)
by_id files = from_entries files

-- the files of one kind, by name
abbrev pub of_kind : Kind → List (Id × List ℕ) → List (FileName × List ℕ)
of_kind kind files = map (λ e. (named kind e.0, e.1)) files

-- the files of all kinds, by name
abbrev pub by_name : List (Id × List ℕ) → List (Id × List ℕ) → List (Id × List ℕ) → FinMap name_cmp (List ℕ)
by_name packs indexes snapshots =
    from_entries (of_kind Pack packs ++ (of_kind Index indexes ++ of_kind Snapshot snapshots))

-- a number of 64 bits counts them
abbrev pub AreCounted : FinMap name_cmp (List ℕ) → Type 0
AreCounted files = len files < 2 ^ 64
