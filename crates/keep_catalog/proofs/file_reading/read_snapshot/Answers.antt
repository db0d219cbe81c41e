use Rattle.std.proofs.Common.{◌≢◌, sym, ap, rules}
use Rattle.std.specs.Option.{option_map}
use Rattle.std.specs.Result.{result_err, result_ok}
use Rattle.keep_docs.specs.declared.doc.DocError.TheVariants.{Memory}
use Rattle.keep_snap.specs.declared.snap.SnapError.TheVariants.{Doc}
use Rattle.keep_catalog.specs.Files.{snap_of}
use Rattle.keep_catalog.specs.declared.unread.FileError.TheVariants.{Snap}
use Rattle.keep_catalog.proofs.file_reading.read_snapshot.Goals as goal

pub returns-in-Ok-clause-snap : goal.returns-in-Ok-clause-snap
unfolding snap_of
returns-in-Ok-clause-snap c = sym (ap result_ok c.in-Ok.ensures.read)

pub returns-in-Ok-clause-why : goal.returns-in-Ok-clause-why
unfolding snap_of
returns-in-Ok-clause-why c = sym (ap (λ read. option_map Snap (result_err read)) c.in-Ok.ensures.read)

pub returns-else-is_snap_memory-clause-snap : goal.returns-else-is_snap_memory-clause-snap
unfolding snap_of
returns-else-is_snap_memory-clause-snap c =
    let other : c.in-Err.refusal ≢ Doc Memory = λ h. search (rules) in
    sym (ap result_ok (c.in-Err.ensures.read other))

pub returns-else-is_snap_memory-clause-why : goal.returns-else-is_snap_memory-clause-why
unfolding snap_of
returns-else-is_snap_memory-clause-why c =
    let other : c.in-Err.refusal ≢ Doc Memory = λ h. search (rules) in
    sym (ap (λ read. option_map Snap (result_err read)) (c.in-Err.ensures.read other))
