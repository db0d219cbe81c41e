-- Which changes lean on which, as text: each change, and below it those that lean on it at once.
use Rattle.std.specs.Prelude.{ℕ, List, [], ◌++◌, codes, Option, Some, None, string_bytes}
use Rattle.std.specs.BTreeMap.{BTreeMap, get}
use Rattle.std.specs.Fmt.{decimal}
use Rattle.std.specs.List.{flat_map}
use Rattle.std.specs.Ordering.{nat_cmp}
use Rattle.keep_tables.specs.Shown.{shown_text}
use Rattle.keep_graph.specs.declared.link.Link.{Link}

-- changes by their numbers
abbrev pub Graph : Type 0
Graph = BTreeMap ℕ Link

-- a line: so many spaces, the change's number, and what it is called
abbrev pub line : List ℕ → ℕ → Link → List ℕ
line indent number link =
    indent ++ (decimal number ++ (codes " " ++ (shown_text (string_bytes link.label) ++ codes "\n")))

-- the line of a change below another one, if it is in the graph
abbrev pub line_below : ℕ → Option Link → List ℕ
line_below number (Some link) = line (codes "  ") number link
line_below number None = []

abbrev pub below : Graph → ℕ → List ℕ
below graph number = line_below number (get nat_cmp graph number)

-- a change, and below it those that lean on it at once
abbrev pub branch : Graph → ℕ × Link → List ℕ
branch graph entry = line [] entry.0 entry.1 ++ flat_map (below graph) entry.1.leaning.keys

-- each change once so, by its number
abbrev pub graph_text : Graph → List ℕ
graph_text graph = flat_map (branch graph) graph.entries
