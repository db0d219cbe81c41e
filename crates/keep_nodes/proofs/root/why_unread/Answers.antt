use Rattle.std.proofs.Common.{◌≡◌, ◌≢◌, Some, Err, sym, ap, ◌∙◌, rules}
use Rattle.keep_docs.specs.declared.doc.DocError.TheVariants.{Memory}
use Rattle.keep_names.specs.declared.file_name.FileName.{FileName}
use Rattle.keep_names.specs.declared.file_name.Kind.TheVariants.{Snapshot}
use Rattle.keep_snap.specs.Snap as snap_reading
use Rattle.keep_snap.specs.declared.snap.SnapError.TheVariants.{Doc}
use Rattle.keep_catalog.specs.Files.{file_in}
use Rattle.keep_catalog.specs.declared.unread.FileError.TheVariants.{Snap}
use Rattle.keep_read.proofs.Restoring.{not_read}
use Rattle.keep_read.specs.declared.restore_error.RestoreError.TheVariants.{Unread}
use Rattle.keep_nodes.proofs.Roots.{bad_root, no_root}
use Rattle.keep_nodes.proofs.root.why_unread.Goals as goal

pub returns-in_default : goal.returns-in_default
unfolding file_in
returns-in_default c _ = no_root c.args.repo.now c.args.snapshot (rw c.snapshot-name.ensures at (sym c.in_default.ensures))

pub unreachable-requires : goal.unreachable-requires
unfolding file_in
unreachable-requires c =
    let there : file_in c.args.repo.now Snapshot c.args.snapshot ≡ Some c.in-Some.bytes.now = rw c.snapshot-name.ensures at (sym c.in-Some.ensures) in
    not_read c.args.repo.now c.args.snapshot c.in-Some.bytes.now there c.requires _ (sym (ap snap_reading.snap_of c.as_slice.ensures) ∙ c.in-Ok.ensures.read)

pub returns : goal.returns
unfolding file_in
returns c _ =
    let there : file_in c.args.repo.now Snapshot c.args.snapshot ≡ Some c.in-Some.bytes.now = rw c.snapshot-name.ensures at (sym c.in-Some.ensures) in
    let other : c.in-Err.refusal ≢ Doc Memory = λ h. search rules in
    bad_root c.args.repo.now c.args.snapshot c.in-Some.bytes.now there c.in-Err.refusal (sym (ap snap_reading.snap_of c.as_slice.ensures) ∙ c.in-Err.ensures.read other)
    ∙ ap (λ (n : FileName). Err (Unread (record { name = n; refusal = Snap c.in-Err.refusal }))) (sym c.snapshot-name.ensures)
