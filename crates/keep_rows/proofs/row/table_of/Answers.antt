use Rattle.std.proofs.Common.{◌≡◌, ◌∙◌, ap, map}
use Rattle.std.proofs.lemmas.List.{take_all}
use Rattle.std.proofs.lemmas.Result.{IfOk-weaker}
use Rattle.keep_rows.specs.Rows.{rows_table}
use Rattle.keep_tables.specs.Lines.{table_text}
use Rattle.keep_rows.proofs.row.table_of.Goals as goal

pub returns : goal.returns
returns g c =
    let all = c.loop-row.invariant ∙ ap (λ rows. rows_table g.R.Row.row_sides g.R.Row.row_head (map g.R.Row.row_cells rows)) (take_all c.loop-row.row-index c.args.rows.now c.loop-row-test.false) in
    IfOk-weaker c.text.result _ _ (λ text e. e ∙ ap table_text all) c.text.ensures
