use Rattle.std.proofs.Common.{◌≡◌, ◌∙◌, ℕ, ◌≤◌, false, List, [], length, map, String, string_bytes, ap, refl, sym, arith}
use Rattle.std.proofs.lemmas.List.{get_or_past, length-map}
use Rattle.std.proofs.lemmas.Str.{chars-nil}
use Rattle.std.specs.Global.{Global}
use Rattle.unicode_width.specs.Width.{str_width}
use Rattle.unicode_width.proofs.Rules.{str_width-printable}
use Rattle.keep_tables.specs.Lines.{cell_width, width}
use Rattle.keep_tables.proofs.table.cell_width.Goals as goal

nothing : (k : ℕ) (cells : List (String Global)) → length cells ≤ k → 0 ≡ cell_width k (map string_bytes cells)
nothing k cells past =
    let less : length (map string_bytes cells) ≤ k = omega (arith, length-map cells string_bytes) in
    sym (ap width (get_or_past (map string_bytes cells) k [] less) ∙ ap (str_width false) chars-nil ∙ str_width-printable false [] refl)

pub returns-else-k-cells : goal.returns-else-k-cells
returns-else-k-cells c = nothing c.args.k c.args.cells.now (omega (arith, c.if-k-cells.false))
