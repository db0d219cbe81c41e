use Rattle.keep_snap.proofs.Relabelled.{IsSnap-retreed}
use Rattle.keep_snap.proofs.snap_writing.retreed_snapshots_can_be_written.Goals as goal

pub returns : goal.returns
returns c = IsSnap-retreed
