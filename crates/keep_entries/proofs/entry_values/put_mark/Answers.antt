use Rattle.std.proofs.Common.{◌≡◌, ◌++◌, ◌∙◌, ap, codes, of_z, rules, to_z, w64}
use Rattle.json.specs.Print.{escape, escape_byte}
use Rattle.serde_json.specs.Find.{of_integer}
use Rattle.serde_json.specs.Written.{number_text}
use Rattle.keep_names.specs.Id.{id_text}
use Rattle.keep_entries.proofs.Appended.{moment_written, on_ok, piece_last, piece_more, quoted_more}
use Rattle.keep_entries.proofs.entry_values.put_mark.Goals as goal

pub returns-clause-text : goal.returns-clause-text
unfolding escape_byte
returns-clause-text c =
    let mark = c.args.mark in
    let old = c.args.out.now in
    let moment = number_text (of_integer mark.mark.moment) in
    let kept : to_z w64 (of_z w64 mark.mark.moment) ≡ mark.mark.moment = search rules in
    on_ok c.put-4.result
    (λ last. piece_last _ (codes "}") last
    ∙ piece_more _ moment _ (moment_written c.put-2.new.self kept (c.as_bytes.ensures.value ∙ c.format.ensures.text) c.in_ok-put-3.ensures)
    ∙ piece_more _ (codes "\",\"moment\":") _ c.in_ok-put-2.ensures
    ∙ piece_more _ (escape (id_text mark.pack)) _ c.in_ok-put_digits.ensures
    ∙ piece_more old (codes "{\"id\":\"") _ c.in_ok-put.ensures
    ∙ ap (λ s. old ++ (codes "{\"id\":" ++ s)) (quoted_more (id_text mark.pack) (codes ",\"moment\":" ++ (moment ++ codes "}"))))
    c.put-4.ensures
