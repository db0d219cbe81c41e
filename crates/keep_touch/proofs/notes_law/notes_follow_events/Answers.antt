-- The committed changes are one more after a commit, and the same after any other event.
use Rattle.std.proofs.Common.{◌≡◌, ◌++◌, [], ◌∷◌, Option, Some, None, refl, sym, ap, ◌∙◌}
use Rattle.std.proofs.lemmas.List.Elements.{filter_map-append}
use Rattle.std.specs.List.{cons_option, filter_map}
use Rattle.std.specs.Option.{option_to_list}
use Rattle.keep_journal.proofs.Commits.{committed-Commit, committed-Empty, committed-Redo, committed-Undo}
use Rattle.keep_journal.specs.History.{committed}
use Rattle.keep_touch.specs.Mentions.{mention_of}
use Rattle.keep_touch.specs.declared.mention.Mention.{Mention}
use Rattle.keep_touch.proofs.notes_law.notes_follow_events.Goals as goal

listed_alone : (o : Option Mention) → option_to_list o ≡ cons_option o []
listed_alone None = refl
listed_alone (Some m) = refl

pub returns : goal.returns
returns c = record {
  commit = λ old new j at n change noted one q.
      one q
      ∙ ap (λ ms. ms ++ option_to_list (mention_of q (record { number = n; change = change }))) (noted q)
      ∙ ap (λ ms. filter_map (mention_of q) (committed j) ++ ms) (listed_alone (mention_of q (record { number = n; change = change })))
      ∙ sym (filter_map-append (mention_of q) (committed j) (record { number = n; change = change } ∷ []))
      ∙ ap (filter_map (mention_of q)) (sym (committed-Commit j at n change));
  undo = λ touch j at n noted q. noted q ∙ ap (filter_map (mention_of q)) (sym (committed-Undo j at n));
  redo = λ touch j at n noted q. noted q ∙ ap (filter_map (mention_of q)) (sym (committed-Redo j at n));
  empty = λ touch j at n marks noted q. noted q ∙ ap (filter_map (mention_of q)) (sym (committed-Empty j at n marks));
}
