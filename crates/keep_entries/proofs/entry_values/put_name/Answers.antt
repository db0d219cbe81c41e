use Rattle.std.proofs.Common.{◌++◌, ◌∙◌, ap, codes}
use Rattle.json.specs.Print.{escape}
use Rattle.keep_names.specs.Id.{id_text}
use Rattle.keep_entries.proofs.Appended.{name_quoted, on_ok, piece_last, piece_more}
use Rattle.keep_entries.proofs.entry_values.put_name.Goals as goal

pub returns-clause-text : goal.returns-clause-text
returns-clause-text c =
    let name = c.args.name in
    let old = c.args.out.now in
    on_ok c.put-2.result
    (λ last. piece_last _ (codes "\"") last
    ∙ piece_more _ (escape (id_text name.id)) _ c.in_ok-put_digits.ensures
    ∙ piece_more old c.beginning_of.result.now _ c.in_ok-put.ensures
    ∙ ap (λ s. old ++ s) (name_quoted name.kind (id_text name.id) c.beginning_of.ensures))
    c.put-2.ensures
