use Rattle.std.proofs.Common.{◌≡◌, map, take}
use Rattle.std.specs.List.{flat_map}
use Rattle.keep_named.specs.Rows.{row_view}
use Rattle.keep_named.specs.declared.listed_snapshot.ListedSnapshot.{ListedSnapshot}
use Rattle.keep_looks.specs.Shown.{row_data, row_due, unlisted_of}
use Rattle.keep_looks.proofs.shown_snapshots.shown_of.Given as goal

abbrev pub invariant-loop-row : goal.invariant-loop-row
invariant-loop-row l =
    (l.lengths ≡ l.view.repo)
    × (map row_data l.shown.items ≡ map (row_due l.view.repo) (map row_view (take l.row-index l.rows)))
    × (l.unlisted.items ≡ flat_map (λ (row : ListedSnapshot). unlisted_of l.view.repo row.id) (take l.row-index l.rows))
