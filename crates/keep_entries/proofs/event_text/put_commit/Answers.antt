use Rattle.std.proofs.Common.{◌∙◌}
use Rattle.serde_json.specs.Data.{no_members}
use Rattle.keep_entries.proofs.Appended.{on_ok}
use Rattle.keep_entries.specs.Members.{last_members, middle_members}
use Rattle.keep_entries.specs.declared.form.Form.TheVariants.{Moments}
use Rattle.keep_entries.proofs.event_text.put_commit.Goals as goal

pub returns-clause-text : goal.returns-clause-text
returns-clause-text c =
    let change = c.args.change.now in
    let behind = last_members Moments change no_members in
    on_ok c.put_last.result
    (λ last. last ∙ c.in_ok-put_middle.ensures.text behind
    ∙ c.in_ok-put_first.ensures.text (middle_members Moments c.args.number change behind))
    c.put_last.ensures.text
