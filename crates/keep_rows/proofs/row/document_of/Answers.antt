use Rattle.std.proofs.Common.{◌≡◌, ◌∙◌, [], ◌∷◌, ◌++◌, ap, map}
use Rattle.serde_json.specs.Written.{compact_text, has_float}
use Rattle.keep_rows.proofs.Whole.{rows-whole}
use Rattle.keep_rows.proofs.row.document_of.Goals as goal

pub returns : goal.returns
returns g c =
    let made = c.in_ok-value.ensures in
    let whole = ap has_float made.value ∙ rows-whole g.R.Row.row_data c.args.rows.now made.whole in
    c.in_ok-push.ensures.items ∙ ap (λ bytes. bytes ++ 10 ∷ []) (c.in_ok-text.ensures.text whole ∙ ap compact_text made.value)
