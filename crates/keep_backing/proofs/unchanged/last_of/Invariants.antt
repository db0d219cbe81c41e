use Rattle.std.proofs.Common.{◌≡◌, drop, filter, map}
use Rattle.std.specs.List.{last_or}
use Rattle.keep_backup.specs.Backup.{facts_view}
use Rattle.keep_named.specs.Rows.{RowData, row_view}
use Rattle.keep_backing.specs.Unchanged.{is_of, last_of}
use Rattle.keep_backing.proofs.unchanged.last_of.Given as goal

abbrev pub invariant-loop-row : goal.invariant-loop-row
invariant-loop-row l =
    last_or l.last (map (λ (row : RowData). row.id) (filter (λ (row : RowData). is_of (facts_view l.facts) row.snap) (map row_view (drop l.row-index l.rows))))
    ≡ last_of (facts_view l.facts) (map row_view l.rows)
