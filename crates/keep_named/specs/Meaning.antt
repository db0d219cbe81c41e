-- Which snapshot is meant by a text.
use Rattle.std.specs.Prelude.{ℕ, ◌^◌, ◌==◌, nat_lt, Bool, ◌&&◌, ◌-◌, List, [], ◌∷◌, length, filter, Option, None, Some, Result, Ok, Err, ok_or, codes, slice_get, if◌then◌else◌}
use Rattle.std.specs.Char.{is_ascii_digit}
use Rattle.std.specs.List.{list_all, starts_with}
use Rattle.std.specs.Option.{option_map, unwrap_or}
use Rattle.std.specs.Str.{bytes_eq}
use Rattle.std.specs.Str.Parse.{digits_value}
use Rattle.keep_names.specs.Id.{id_text}
use Rattle.keep_names.specs.declared.file_name.FileName.{FileName}
use Rattle.keep_names.specs.declared.file_name.Kind.TheVariants.{Snapshot}
use Rattle.keep_names.specs.declared.id.Id.{Id}
use Rattle.keep_repo.specs.Kinds.{ids_among}
use Rattle.keep_repo.specs.Repository.{Repository}
use Rattle.keep_change.specs.Lists.{file_names}
use Rattle.keep_journal.specs.History.{change_of}
use Rattle.keep_journal.specs.Journal.{Journal}
use Rattle.keep_catalog.specs.Files.{ids_in}
use Rattle.keep_named.specs.declared.named_error.NamedError.{NamedError}
use Rattle.keep_named.specs.declared.named_error.NamedError.TheVariants.{NoneAdded, NoneBegins, NoneLatest, SeveralAdded, SeveralBegin}
use Rattle.keep_named.specs.declared.listed_snapshot.ListedSnapshot.{ListedSnapshot}

-- the one of these, if there is just one
abbrev pub only : NamedError → NamedError → List Id → Result Id NamedError
only none several [] = Err none
only none several (id ∷ []) = Ok id
only none several (id ∷ other ∷ ids) = Err several

-- what stands behind `@`
abbrev pub behind_at : List ℕ → Option (List ℕ)
behind_at [] = None
behind_at (c ∷ text) = if c == 64 then Some text else None

-- the number that digits write, if there are some and it has 64 bits
abbrev pub number_in : List ℕ → Option ℕ
number_in digits =
    if list_all is_ascii_digit digits && (nat_lt 0 (length digits) && nat_lt (digits_value 10 digits) (2 ^ 64))
    then Some (digits_value 10 digits)
    else None

-- the names of the files that change n added, be it in force or not
abbrev pub names_added : Journal → ℕ → List FileName
names_added j n = unwrap_or (option_map (λ c. file_names c.adds) (change_of j n)) []

-- the snapshot that the change of this number added
abbrev pub added_due : Journal → Option ℕ → Result Id NamedError
added_due j None = Err NoneAdded
added_due j (Some n) = only NoneAdded SeveralAdded (ids_among Snapshot (names_added j n))

-- whether the id's hex digits begin with the text
abbrev pub begins : List ℕ → Id → Bool
begins text id = starts_with (λ a b. a == b) (id_text id) text

-- those of the ids whose hex digits begin with the text
abbrev pub begun_by : List ℕ → List Id → List Id
begun_by text ids = filter (begins text) ids

-- the snapshot whose id begins with the text, which isn't empty
abbrev pub begun_due : Repository → List ℕ → Result Id NamedError
begun_due r text =
    if length text == 0 then Err NoneBegins else only NoneBegins SeveralBegin (begun_by text (ids_in r Snapshot))

-- the last of the rows
abbrev pub latest_due : List ListedSnapshot → Result Id NamedError
latest_due rows = ok_or (option_map (λ (row : ListedSnapshot). row.id) (slice_get rows (length rows - 1))) NoneLatest

-- the snapshot that a text means where it isn't `latest`
abbrev pub other_due : Repository → Journal → List ℕ → Option (List ℕ) → Result Id NamedError
other_due r j text None = begun_due r text
other_due r j text (Some digits) = added_due j (number_in digits)

-- `latest` is the last of the rows, `@N` the snapshot that change N added, and else the text begins an id
abbrev pub named_due : Repository → Journal → List ListedSnapshot → List ℕ → Result Id NamedError
named_due r j rows text =
    if bytes_eq text (codes "latest") then latest_due rows else other_due r j text (behind_at text)
