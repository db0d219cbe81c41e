use Rattle.std.proofs.Common.{cond, None, refl, ap, ◌∙◌}
use Rattle.keep_names.specs.declared.file_name.FileName.{FileName}
use Rattle.keep_catalog.specs.Orders.{same_name}
use Rattle.keep_catalog.proofs.Coming.{noted_at, snap_taken, snapshot_goes}
use Rattle.keep_catalog.proofs.tables.Tables.drop_snapshot.Goals as goal

pub returns : goal.returns
returns c r kept =
    let old = c.args.self.now in
    snapshot_goes r old _ kept c.args.name (snap_taken old.snaps c.remove.new.self c.args.name c.remove.ensures.updates.0) c.remove.ensures.ordered
    (λ q. c.forget.ensures.forgotten q ∙ ap (λ (n : FileName). cond (same_name n q) None (noted_at old q)) c.snapshot.ensures)
    refl refl refl
