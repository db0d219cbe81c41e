use Rattle.std.proofs.Common.{map, string_bytes}
use Rattle.keep_snap.specs.Snap.{snap_view}
use Rattle.keep_plan.proofs.Outcomes.{if_ok}
use Rattle.keep_backup.specs.Backup.{facts_view}
use Rattle.keep_backup.proofs.Planning.{file_made}
use Rattle.keep_backup.proofs.snapshot.snapshot_file.Goals as goal

pub returns : goal.returns
returns c =
    if_ok _ _ c.of.result
    (λ file is. file_made (facts_view c.args.facts.now) (map string_bytes c.args.tags.now) c.args.tree (snap_view c.in_ok-snap.snap) c.in_ok-text.text.items file c.in_ok-snap.ensures
    c.in_ok-text.ensures.text is)
    c.of.ensures
