use Rattle.std.proofs.Common.{◌≡◌, ℕ, List, rules, subst, sym}
use Rattle.keep_entries.specs.Entry.{Spells}
use Rattle.keep_entries.specs.Spelling.{entry_text}
use Rattle.keep_entries.proofs.OpenHistories.{text_spells}
use Rattle.keep_entries.proofs.held_entry.held_entry.Goals as goal

pub returns-clause-spelled : goal.returns-clause-spelled
returns-clause-spelled g c =
    let event = c.in-Some.event in
    let is : c.args.rope.now ≡ entry_text event = c.in_ok-is_text_of_event.ensures.text (search rules) in
    subst (λ (bytes : List ℕ). Spells bytes event) (sym is) (text_spells event)
