use Rattle.std.proofs.Common.{◌≡◌, false, map, take}
use Rattle.std.specs.List.{AllByRecursion}
use Rattle.serde_json.specs.View.{view}
use Rattle.serde_json.specs.Written.{has_float}
use Rattle.keep_rows.proofs.row.list_value.Given as goal

abbrev pub invariant-loop-row : goal.invariant-loop-row
invariant-loop-row g l = record {
  values : map view l.values.items ≡ map g.R.Row.row_data (take l.row-index l.rows);
  whole : AllByRecursion (λ row. has_float (g.R.Row.row_data row) ≡ false) (take l.row-index l.rows);
}
