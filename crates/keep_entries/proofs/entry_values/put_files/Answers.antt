use Rattle.std.proofs.Common.{◌+◌, ◌<◌, ◌++◌, ◌∙◌, ap, arith, drop, length, map, true}
use Rattle.serde_json.specs.View.{items_of}
use Rattle.serde_json.specs.Written.{comma_if, compact_text, items_text}
use Rattle.keep_entries.specs.Entry.{FitsFile}
use Rattle.keep_entries.specs.Spelling.{file_data}
use Rattle.keep_entries.proofs.Appended.{all_more, items_more, piece_more}
use Rattle.keep_entries.proofs.entry_values.put_files.Goals as goal

pub loop-file-preserved : goal.loop-file-preserved
loop-file-preserved c =
    let l = c.loop-file in
    let files = c.args.files.now in
    let file = c.file-item.result in
    let left = items_text true (items_of (map file_data (drop (l.file-index + 1) files))) in
    let within : l.file-index < length files = omega arith in
    record {
      rest = piece_more _ (compact_text (file_data file)) left c.in_ok-put_file.ensures.text
          ∙ piece_more l.out (comma_if l.later) _ c.in_ok-put_comma.ensures
          ∙ ap (λ s. l.out ++ s) (items_more file_data l.later files l.file-index file within c.file-item.is)
          ∙ l.invariant.rest;
      fit = all_more FitsFile files l.file-index file within c.file-item.is l.invariant.fit c.in_ok-put_file.ensures.fit;
    }
