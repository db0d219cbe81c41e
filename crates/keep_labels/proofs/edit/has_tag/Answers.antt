use Rattle.std.proofs.Common.{sym, ◌∙◌, string_bytes}
use Rattle.std.specs.Str.{bytes_eq}
use Rattle.keep_labels.proofs.Tags.{list_any-map}
use Rattle.keep_labels.proofs.edit.has_tag.Goals as goal

pub returns : goal.returns
returns c =
    c.contains.ensures.value
    ∙ sym (list_any-map (λ other. bytes_eq other (string_bytes c.args.tag.now)) string_bytes c.args.tags.now)
