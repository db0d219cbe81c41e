-- Which changes lean on which, in the language of graphviz.
use Rattle.std.specs.Prelude.{ℕ, ◌==◌, ◌||◌, if◌then◌else◌, List, ◌∷◌, ◌++◌, codes, string_bytes}
use Rattle.std.specs.Char.{encode_utf8}
use Rattle.std.specs.Fmt.{decimal}
use Rattle.std.specs.List.{flat_map}
use Rattle.std.specs.Str.{chars}
use Rattle.keep_tables.specs.Shown.{shown_text}
use Rattle.keep_graph.specs.Tree.{Graph}
use Rattle.keep_graph.specs.declared.link.Link.{Link}

-- a character of a quoted text: quotes and backslashes have a backslash before them
abbrev pub quoted_char : ℕ → List ℕ
quoted_char c = if (c == 34) || (c == 92) then 92 ∷ encode_utf8 c else encode_utf8 c

abbrev pub quoted_chars : List ℕ → List ℕ
quoted_chars cs = flat_map quoted_char cs

abbrev pub quoted_text : List ℕ → List ℕ
quoted_text text = quoted_chars (chars (shown_text text))

-- an edge to a change from one that leans on it
abbrev pub edge_line : ℕ → ℕ → List ℕ
edge_line number from = codes "  " ++ (decimal from ++ (codes " -> " ++ (decimal number ++ codes ";\n")))

-- a change with its edges
abbrev pub link_lines : ℕ × Link → List ℕ
link_lines entry =
    codes "  " ++ (decimal entry.0 ++ (codes " [label=\"" ++ (decimal entry.0 ++ (codes " "
    ++ (quoted_text (string_bytes entry.1.label) ++ (codes "\"];\n" ++ flat_map (edge_line entry.0) entry.1.leaning.keys))))))

abbrev pub dot_text : Graph → List ℕ
dot_text graph = codes "digraph changes {\n" ++ (flat_map link_lines graph.entries ++ codes "}\n")
