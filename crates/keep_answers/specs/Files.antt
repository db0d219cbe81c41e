-- The changes that add or drop a file by itself, and the files that lines mean.
use Rattle.std.specs.Prelude.{ℕ, List, [], ◌∷◌, filter, Option, Some}
use Rattle.std.specs.Option.{option_and_then, unwrap_or}
use Rattle.std.specs.Ordering.{min_by_ordering}
use Rattle.std.specs.List.{reduce}
use Rattle.keep_names.specs.Orders.{name_cmp}
use Rattle.std.specs.FinMap as finite
use Rattle.keep_lines.specs.declared.word.MeantFile.{MeantFile}
use Rattle.keep_lines.specs.declared.word.MeantFile.TheVariants.{Named, AddedBy}
use Rattle.keep_names.specs.Sha256.{sha256}
use Rattle.keep_names.specs.declared.file_name.FileName.{FileName}
use Rattle.keep_names.specs.declared.file_name.Kind.{Kind}
use Rattle.keep_names.specs.contracts.file_name.KindPartialEq.TheImpl as the_kind_eq
use Rattle.keep_repo.specs.Repository.{Repository}
use Rattle.keep_change.specs.Change.{no_change}
use Rattle.keep_change.specs.declared.change.Change.{Change}
use Rattle.keep_change.specs.Lists.{file_names}
use Rattle.keep_change.specs.NamedBytes.{NamedBytes}
use Rattle.keep_journal.specs.History.{change_of}
use Rattle.keep_journal.specs.Journal.{Journal}

-- the change that only adds these files and drops those
abbrev pub change_with : List NamedBytes → List NamedBytes → Change
change_with adds drops = record no_change { adds = adds; drops = drops }

-- the change that adds a file of these bytes, under their SHA-256
abbrev pub added_file : Kind → List ℕ → Change
added_file kind bytes =
    let name : FileName = record { kind = kind; id = record { 0 = sha256 bytes } } in
    change_with (record { name = name; bytes = bytes } ∷ []) []

-- the file's bytes, none where it isn't there
abbrev pub bytes_in : Repository → FileName → List ℕ
bytes_in repository name = unwrap_or (finite.get repository.files name) []

-- the change that drops the file as it is, or one without bytes where it isn't there
abbrev pub dropped_file : Repository → FileName → Change
dropped_file repository name = change_with [] (record { name = name; bytes = bytes_in repository name } ∷ [])

-- those of the names that have the kind
abbrev pub names_of_kind : Kind → List FileName → List FileName
names_of_kind kind names = filter (λ name. (the_kind_eq.ghosts).eq name.kind kind) names

-- the lesser of two names, in the order in which files are listed
abbrev pub lesser : FileName → FileName → FileName
lesser a b = min_by_ordering (name_cmp a b) a b

-- the least of these names, if there are any
abbrev pub least : List FileName → Option FileName
least names = reduce lesser names

-- the least file of this kind among those that change n added
abbrev pub added_in : Journal → ℕ → Kind → Option FileName
added_in j n kind = option_and_then (λ c. least (names_of_kind kind (file_names c.adds))) (change_of j n)

-- the file that a target means, if there is one: that of an id, or the least of its kind that a change added
abbrev pub file_meant : Journal → Kind → MeantFile → Option FileName
file_meant j kind (Named id) = Some (record { kind = kind; id = id })
file_meant j kind (AddedBy n) = added_in j n kind
