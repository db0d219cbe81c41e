use Rattle.std.proofs.Common.{◌∙◌, codes, true}
use Rattle.json.specs.Print.{escape_byte}
use Rattle.serde_json.specs.Written.{members_text}
use Rattle.keep_entries.specs.Spelling.{file_data, mark_data, name_data}
use Rattle.keep_entries.specs.declared.form.Form.TheVariants.{Moments}
use Rattle.keep_entries.proofs.Appended.{list_more, on_ok, piece_more}
use Rattle.keep_entries.proofs.object_text.put_first.Goals as goal

pub returns-clause-text : goal.returns-clause-text
unfolding escape_byte
returns-clause-text c =
    on_ok c.put-5.result
    (λ last ms. piece_more _ (codes "]") (members_text true ms) last
    ∙ list_more file_data _ c.put_files-2.new.out _ c.as_slice-4.ensures c.in_ok-put_files-2.ensures.text
    ∙ piece_more _ (codes "],\"drops\":[") _ c.in_ok-put-4.ensures
    ∙ list_more (mark_data Moments) _ c.put_marks.new.out _ c.as_slice-3.ensures c.in_ok-put_marks.ensures.text
    ∙ piece_more _ (codes "],\"clears\":[") _ c.in_ok-put-3.ensures
    ∙ list_more file_data _ c.put_files.new.out _ c.as_slice-2.ensures c.in_ok-put_files.ensures.text
    ∙ piece_more _ (codes "],\"adds\":[") _ c.in_ok-put-2.ensures
    ∙ list_more name_data _ c.put_names.new.out _ c.as_slice.ensures c.in_ok-put_names.ensures.text
    ∙ piece_more c.args.out.now (codes "{\"absent\":[") _ c.in_ok-put.ensures)
    c.put-5.ensures
