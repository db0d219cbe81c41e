use Rattle.std.proofs.Common.{nat_cmp, string_bytes, sym, ◌∙◌}
use Rattle.std.specs.Cmp.Derive.Mapped.{lex_map}
use Rattle.std.specs.Cmp.Lexicographic.{slice_cmp}
use Rattle.keep_labels.proofs.order.compare_paths.Goals as goal

pub returns : goal.returns
returns c =
    c.cmp.ensures ∙ sym (lex_map string_bytes (slice_cmp nat_cmp) c.args.left.now.paths.items c.args.right.now.paths.items)
