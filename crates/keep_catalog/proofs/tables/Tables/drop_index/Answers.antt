use Rattle.std.proofs.Common.{cond, None, refl, ap, ◌∙◌}
use Rattle.keep_names.specs.declared.file_name.FileName.{FileName}
use Rattle.keep_catalog.specs.Orders.{same_name}
use Rattle.keep_catalog.proofs.Coming.{index_goes, noted_at}
use Rattle.keep_catalog.proofs.tables.Tables.drop_index.Goals as goal

pub returns : goal.returns
returns c r kept =
    let old = c.args.self.now in
    index_goes r old _ kept c.args.index c.in_ok-remove_index.ensures.listed c.in_ok-remove_index.ensures.taken
    (c.in_ok-remove_index.ensures.ordered kept.indexes_ordered)
    (λ q. c.forget.ensures.forgotten q ∙ ap (λ (n : FileName). cond (same_name n q) None (noted_at old q)) c.index.ensures)
    refl refl
