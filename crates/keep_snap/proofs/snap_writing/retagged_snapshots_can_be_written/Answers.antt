use Rattle.keep_snap.proofs.Relabelled.{IsSnap-retagged}
use Rattle.keep_snap.proofs.snap_writing.retagged_snapshots_can_be_written.Goals as goal

pub returns : goal.returns
returns c = IsSnap-retagged
