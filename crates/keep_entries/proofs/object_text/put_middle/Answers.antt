use Rattle.std.proofs.Common.{◌∙◌, codes, decimal, true}
use Rattle.std.specs.Fmt.{digits}
use Rattle.json.specs.Print.{escape_byte}
use Rattle.serde_json.specs.Written.{members_text}
use Rattle.keep_docs.specs.Fields.{id_data}
use Rattle.keep_entries.proofs.Appended.{list_more, on_ok, piece_more}
use Rattle.keep_entries.proofs.object_text.put_middle.Goals as goal

pub returns-clause-text : goal.returns-clause-text
unfolding escape_byte digits
returns-clause-text c =
    on_ok c.put_number.result
    (λ last ms. piece_more _ (decimal c.args.number) (members_text true ms) last
    ∙ piece_more _ (codes "],\"number\":") _ c.in_ok-put-2.ensures
    ∙ list_more id_data _ c.put_packs.new.out _ c.as_slice.ensures c.in_ok-put_packs.ensures.text
    ∙ piece_more c.args.out.now (codes ",\"event\":\"commit\",\"form\":2,\"marked\":[") _ c.in_ok-put.ensures)
    c.put_number.ensures
