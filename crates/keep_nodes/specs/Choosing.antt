-- Which of the nodes of a snapshot are asked for.
use Rattle.std.specs.Prelude.{ℕ, ◌==◌, Bool, ◌||◌, List, ◌++◌, map, filter, Option, codes}
use Rattle.std.specs.List.{find, slice_split, starts_with}
use Rattle.std.specs.Str.{bytes_eq, chars}
use Rattle.keep_patterns.specs.Parsing.{PatternData, after_slash, before_slash, is_slash}
use Rattle.keep_patterns.specs.Without.{is_matched}
use Rattle.keep_nodes.specs.Entries.{EntryData, entry_view}
use Rattle.keep_nodes.specs.declared.path_node.PathNode.{PathNode}
use denote.Ref.{Bor}

-- what a lent `PathNode` says
abbrev pub lent_view : Bor PathNode → EntryData
lent_view entry = entry_view entry.now

-- the first node at this path
abbrev pub node_at : List ℕ → List EntryData → Option EntryData
node_at path entries = find (λ (e : EntryData). bytes_eq e.path path) entries

-- whether a path is this one, or begins with it and a `/`
abbrev pub is_below : List ℕ → List ℕ → Bool
is_below top path = bytes_eq path top || starts_with (λ a b. a == b) path (top ++ codes "/")

-- the nodes at a path and below it, in their order: one `/` at its end says nothing, so the root is `/` or no text
abbrev pub nodes_below : List ℕ → List EntryData → List EntryData
nodes_below path entries = filter (λ (e : EntryData). is_below (before_slash path) e.path) entries

-- the names of a path: what stands between its slashes, without the one that it begins with
abbrev pub names_in : List ℕ → List (List ℕ)
names_in path = slice_split is_slash (after_slash path)

-- the nodes whose path one of the patterns matches, in their order
abbrev pub matched : List PatternData → List EntryData → List EntryData
matched patterns entries = filter (λ (e : EntryData). is_matched patterns (map chars (names_in e.path))) entries
