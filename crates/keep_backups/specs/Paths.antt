-- The paths below the root of a source at which nodes of a tree lie.
use Rattle.std.specs.Prelude.{ℕ, ◌==◌, ◌&&◌, List, [], ◌∷◌, drop, Option, None, Some, option_and_then, if◌then◌else◌}
use Rattle.std.specs.List.{slice_split}
use Rattle.std.specs.Str.{is_utf8}
use Rattle.keep_quoted.specs.Unquote.{unquoted}
use Rattle.keep_sources.specs.Met.{below}
use Rattle.keep_tree.specs.Names.{is_name}

-- the names of a node's path, each behind a slash
abbrev pub names_of : List ℕ → List (List ℕ)
names_of path = drop 1 (slice_split (λ c. c == 47) path)

-- a name, if a source can have it: it is UTF-8, and the name of a node
abbrev pub sayable : List ℕ → Option (List ℕ)
sayable name = if is_utf8 name && is_name name then Some name else None

-- the name as it was before it was quoted, if a source can have it
abbrev pub name_before : List ℕ → Option (List ℕ)
name_before quoted = option_and_then sayable (unquoted quoted)

-- where these names lead from a path on, if a source can have each of them
abbrev pub path_from : List ℕ → List (List ℕ) → Option (List ℕ)
path_from path [] = Some path
path_from path (quoted ∷ more) = option_and_then (λ name. path_from (below path name) more) (name_before quoted)

-- the path below the root of a source that a node's path is, if it is one
abbrev pub source_path : List ℕ → Option (List ℕ)
source_path path = path_from [] (names_of path)
