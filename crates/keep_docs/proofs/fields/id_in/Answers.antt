use Rattle.std.proofs.Common.{option_and_then, ap, ◌∙◌}
use Rattle.keep_docs.specs.Fields.{id_of_text}
use Rattle.keep_docs.proofs.FieldLemmas.{id_parsed}
use Rattle.keep_docs.proofs.fields.id_in.Goals as goal

pub returns : goal.returns
returns c =
    c.ok.ensures.value ∙ id_parsed c.in_ok-as_str.field-0.now c.parse_id.result c.parse_id.ensures.accepted c.parse_id.ensures.printed
    ∙ ap (option_and_then id_of_text) c.in_ok-as_str.ensures
