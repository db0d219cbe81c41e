use Rattle.std.proofs.Common.{Some, map, ap, ◌∙◌}
use Rattle.serde_json.specs.View.{view}
use Rattle.keep_docs.proofs.FieldLemmas.{list_found}
use Rattle.keep_docs.proofs.fields.list_at.Goals as goal

pub returns : goal.returns
returns c =
    ap (λ vs. Some (map view vs)) c.as_slice.ensures.value
    ∙ list_found c.args.key.now (view c.args.value.now) (view c.in_ok-get.field-0.now) c.in_ok-as_array.field-0.now.items c.in_ok-get.ensures c.in_ok-as_array.ensures
