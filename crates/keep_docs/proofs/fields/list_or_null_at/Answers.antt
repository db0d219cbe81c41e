use Rattle.std.proofs.Common.{Some, map, Vec, Global, ap, ◌∙◌}
use Rattle.serde_json.specs.declared.value.Value.{Value}
use Rattle.serde_json.specs.View.{view}
use Rattle.serde_json.proofs.Views.{view-Array}
use Rattle.keep_docs.proofs.FieldLemmas.{nullable_list_found}
use Rattle.keep_docs.proofs.fields.list_or_null_at.Goals as goal

pub returns-in-Some-Array : goal.returns-in-Some-Array
returns-in-Some-Array c =
    let found = c.in-Some-Array in
    ap (λ vs. Some (map view vs)) c.as_slice.ensures.value
    ∙ ap (λ (v : Vec Value Global). Some (map view v.items)) found.items-is
    ∙ nullable_list_found c.args.key.now (view c.args.value.now) (view found.field-0.now) found.items.items found.ensures
    (ap view found.field-0-is ∙ view-Array found.items)
