use Rattle.keep_snap.proofs.Inverse.{IsSnap-snap_of}
use Rattle.keep_snap.proofs.RoundTrip.{snap_of-compact_text}
use Rattle.keep_snap.proofs.snap_writing.snapshots_read_back.Goals as goal

pub returns-clause-written : goal.returns-clause-written
returns-clause-written c = snap_of-compact_text

pub returns-clause-read : goal.returns-clause-read
returns-clause-read c = IsSnap-snap_of
