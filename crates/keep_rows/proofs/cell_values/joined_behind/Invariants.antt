use Rattle.std.proofs.Common.{◌≡◌, ◌++◌, map, take, string_bytes}
use Rattle.std.specs.List.{flat_map}
use Rattle.keep_rows.specs.Values.{behind_comma}
use Rattle.keep_rows.proofs.cell_values.joined_behind.Given as goal

abbrev pub invariant-loop-text : goal.invariant-loop-text
invariant-loop-text l =
    string_bytes l.made ≡ l.first ++ flat_map behind_comma (map string_bytes (take l.text-index l.rest))
