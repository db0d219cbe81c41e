use Rattle.std.proofs.Common.{sym, ◌∙◌}
use Rattle.std.specs.Str.{bytes_eq}
use Rattle.keep_docs.proofs.Members.{list_any-map}
use Rattle.keep_docs.proofs.made_values.is_named.Goals as goal

pub returns : goal.returns
returns c = c.contains.ensures.value ∙ sym (list_any-map (λ name. bytes_eq name c.args.key.now) (λ name. name.now) c.args.named.now)
