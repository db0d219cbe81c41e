use Rattle.std.proofs.Common.{◌≡◌, ◌++◌, map}
use Rattle.keep_named.specs.Rows.{named_view, row_view, rows_of}
use Rattle.keep_named.proofs.rows.rows_by_name.Given as goal

abbrev pub invariant-loop-name : goal.invariant-loop-name
invariant-loop-name l =
    map row_view l.rows.items ++ rows_of l.history.journal (map named_view l.name-iterator)
    ≡ rows_of l.history.journal (map named_view l.snaps.entries)
