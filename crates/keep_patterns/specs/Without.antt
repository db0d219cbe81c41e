-- What goes from a directory: the nodes whose whole path a pattern matches.
use Rattle.std.specs.Prelude.{ℕ, Bool, not, List, [], ◌∷◌, ◌++◌, map, filter}
use Rattle.std.specs.List.{list_any}
use Rattle.std.specs.Str.{chars}
use Rattle.keep_tree.specs.Tree.{NodeData}
use Rattle.keep_patterns.specs.Matching.{matches}
use Rattle.keep_patterns.specs.Parsing.{PatternData}

-- whether one of the patterns matches a path, given by the characters of its names
abbrev pub is_matched : List PatternData → List (List ℕ) → Bool
is_matched patterns path = list_any (λ (pattern : PatternData). matches pattern.0 pattern.1 path) patterns

-- the nodes of the directory at a path that stay: no pattern matches the path of the directory and the node's name
abbrev pub without : List PatternData → List (List ℕ) → List NodeData → List NodeData
without patterns at nodes =
    filter (λ (node : NodeData). not (is_matched patterns (map chars (at ++ node.name ∷ [])))) nodes
