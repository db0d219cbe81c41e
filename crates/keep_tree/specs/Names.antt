-- The names that nodes can have.
use Rattle.std.specs.Prelude.{ℕ, ◌==◌, Bool, not, ◌||◌, List, [], length, codes}
use Rattle.std.specs.List.{list_any}
use Rattle.std.specs.Set.{distinct_count}
use Rattle.std.specs.Str.{bytes_eq}

-- NUL and `/`, which no file name has (POSIX, "Filename")
abbrev pub is_never_in_names : ℕ → Bool
is_never_in_names c = c == 0 || c == 47

-- whether a node can have this name: it isn't empty, `.` or `..`, and has neither NUL nor `/`
abbrev pub is_name : List ℕ → Bool
is_name name =
    not (bytes_eq name [] || bytes_eq name (codes ".") || bytes_eq name (codes "..")
    || list_any is_never_in_names name)

-- whether no two of the names are one
abbrev pub are_distinct : List (List ℕ) → Bool
are_distinct names = distinct_count bytes_eq names == length names
