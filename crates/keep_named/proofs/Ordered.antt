-- The order of moments is total.
use Rattle.std.proofs.lemmas.Cmp.{int_cmp_total, on_total, then_total}
use Rattle.std.specs.Cmp.{IsTotalOrder}
use Rattle.keep_names.proofs.Orders.{id_total}
use Rattle.keep_named.specs.Rows.{RowData, moment_cmp}

pub moment_total : IsTotalOrder moment_cmp
moment_total = then_total (on_total (λ (row : RowData). row.instant) int_cmp_total) (on_total (λ (row : RowData). row.id) id_total)
