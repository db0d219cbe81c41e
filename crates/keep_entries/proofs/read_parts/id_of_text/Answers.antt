use Rattle.std.proofs.Common.{◌∙◌}
use Rattle.keep_docs.proofs.FieldLemmas.{id_parsed}
use Rattle.keep_entries.proofs.read_parts.id_of_text.Goals as goal

pub returns : goal.returns
returns c =
    c.ok.ensures.value
    ∙ id_parsed c.args.text.now c.parse_id.result c.parse_id.ensures.accepted c.parse_id.ensures.printed
