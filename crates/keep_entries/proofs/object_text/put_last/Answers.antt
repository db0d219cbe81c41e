use Rattle.std.proofs.Common.{◌++◌, ◌∙◌, ap, append_assoc, codes, map}
use Rattle.json.specs.Print.{escape_byte, token_text}
use Rattle.json.specs.Token as token
use Rattle.keep_docs.specs.Fields.{id_data}
use Rattle.keep_entries.specs.Members.{list_text}
use Rattle.keep_entries.specs.Spelling.{mark_data, name_data}
use Rattle.keep_entries.specs.declared.form.Form.TheVariants.{Moments}
use Rattle.keep_entries.proofs.Appended.{list_more, on_ok, piece_last, piece_more, same_piece}
use Rattle.keep_entries.proofs.object_text.put_last.Goals as goal

pub returns-clause-text : goal.returns-clause-text
unfolding escape_byte
returns-clause-text c =
    let change = c.args.change.now in
    let held = c.put_marks.new.out in
    let strict = token_text (token.boolean change.strict) in
    let unmarked = list_text (map id_data change.unmarked) in
    on_ok c.put-4.result
    (λ last. piece_last _ (codes "]}") last
    ∙ list_more id_data _ c.put_packs.new.out (codes "}") c.as_slice-3.ensures c.in_ok-put_packs.ensures.text
    ∙ piece_more held (codes "],\"strict\":" ++ (strict ++ codes ",\"unmarked\":[")) _ (same_piece _ c.strictness.ensures c.in_ok-put-3.ensures)
    ∙ ap (λ s. held ++ (codes "],\"strict\":" ++ s)) (append_assoc strict (codes ",\"unmarked\":[") (unmarked ++ codes "}"))
    ∙ list_more (mark_data Moments) _ held _ c.as_slice-2.ensures c.in_ok-put_marks.ensures.text
    ∙ piece_more _ (codes "],\"sets\":[") _ c.in_ok-put-2.ensures
    ∙ list_more name_data _ c.put_names.new.out _ c.as_slice.ensures c.in_ok-put_names.ensures.text
    ∙ piece_more c.args.out.now (codes ",\"present\":[") _ c.in_ok-put.ensures)
    c.put-4.ensures
