use Rattle.std.proofs.Common.{◌++◌, ◌∙◌, ap, codes, subst}
use Rattle.hex.specs.Hex.{IsBytes, encode_lower}
use Rattle.json.specs.Print.{escape, escape_byte}
use Rattle.serde_json.specs.Written.{compact_text}
use Rattle.keep_entries.specs.Spelling.{name_data}
use Rattle.keep_entries.proofs.Appended.{alike, digits_written, on_ok, piece_last, piece_more, quoted_more}
use Rattle.keep_entries.proofs.entry_values.put_file.Goals as goal

pub returns-clause-text : goal.returns-clause-text
unfolding escape_byte
returns-clause-text c =
    let file = c.args.file.now in
    let old = c.args.out.now in
    let name = compact_text (name_data file.name) in
    let digits = encode_lower file.bytes in
    let fits = subst IsBytes (c.as_slice.ensures ∙ c.bytes-bytes.ensures) c.are_bytes.ensures in
    on_ok c.put-3.result
    (λ last. piece_last _ (codes "}") last
    ∙ piece_more _ name _ (alike name_data _ c.name.ensures c.in_ok-put_name.ensures.text)
    ∙ piece_more _ (codes "\",\"file\":") _ c.in_ok-put-2.ensures
    ∙ piece_more _ (escape digits) _ (digits_written _ file.bytes fits (ap encode_lower c.bytes-bytes.ensures) c.in_ok-put_hex.ensures)
    ∙ piece_more old (codes "{\"bytes\":\"") _ c.in_ok-put.ensures
    ∙ ap (λ s. old ++ (codes "{\"bytes\":" ++ s)) (quoted_more digits (codes ",\"file\":" ++ (name ++ codes "}"))))
    c.put-3.ensures
