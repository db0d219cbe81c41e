use Rattle.std.proofs.Common.{◌∙◌, codes, decimal, refl}
use Rattle.std.specs.Fmt.{digits}
use Rattle.json.specs.Print.{escape_byte}
use Rattle.keep_entries.specs.Spelling.{mark_data}
use Rattle.keep_entries.specs.declared.form.Form.TheVariants.{Moments}
use Rattle.keep_entries.proofs.Appended.{list_more, on_ok, piece_last, piece_more}
use Rattle.keep_entries.proofs.event_text.put_empty.Goals as goal

pub returns-clause-text : goal.returns-clause-text
unfolding escape_byte digits
returns-clause-text c =
    on_ok c.put-3.result
    (λ last. piece_last _ (codes "}") last
    ∙ piece_more _ (decimal c.args.number) _ c.in_ok-put_number.ensures
    ∙ piece_more _ (codes "],\"number\":") _ c.in_ok-put-2.ensures
    ∙ list_more (mark_data Moments) _ c.put_marks.new.out _ refl c.in_ok-put_marks.ensures.text
    ∙ piece_more c.args.out.now (codes "{\"event\":\"empty\",\"form\":2,\"marks\":[") _ c.in_ok-put.ensures)
    c.put-3.ensures
