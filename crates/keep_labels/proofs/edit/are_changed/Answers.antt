use Rattle.std.proofs.Common.{ap, not, sym, string_bytes, ◌∙◌}
use Rattle.std.specs.Cmp.Derive.Mapped.{pointwise-map}
use Rattle.std.specs.Str.{bytes_eq}
use Rattle.keep_labels.proofs.Tags.{unequal_texts}
use Rattle.keep_labels.proofs.edit.are_changed.Goals as goal

pub returns : goal.returns
returns c = record {
  value = c.ne.ensures ∙ ap not (sym (pointwise-map string_bytes bytes_eq c.args.before.now c.args.after.now));
  same = unequal_texts string_bytes c.args.before.now c.args.after.now c.ne.result c.ne.ensures;
}
