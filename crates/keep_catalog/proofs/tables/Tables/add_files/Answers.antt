use Rattle.std.proofs.Common.{◌∙◌}
use Rattle.keep_catalog.proofs.Building.{next_new}
use Rattle.keep_catalog.proofs.tables.Tables.add_files.Goals as goal

pub loop-file-preserved : goal.loop-file-preserved
loop-file-preserved c r asked kept =
    next_new c.args.files.now c.loop-file.file-index c.file-item.result c.name.result c.as_slice.result.now r c.loop-file.self c.add_file.new.self
    c.loop-file-test.true c.file-item.is c.name.ensures (c.as_slice.ensures ∙ c.bytes.ensures) c.in_ok-add_file.ensures (c.loop-file.invariant r asked kept)
