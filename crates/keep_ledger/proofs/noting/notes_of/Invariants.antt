-- What is noted, with what is to be noted of the later changes, is all.
use Rattle.std.proofs.Common.{◌≡◌, ◌++◌}
use Rattle.std.specs.List.{filter_map}
use Rattle.keep_repo.specs.declared.facet.Facet.{Facet}
use Rattle.keep_journal.specs.History.{committed}
use Rattle.keep_journal.specs.Kept.{above}
use Rattle.keep_touch.specs.Mentions.{mention_of, mentions}
use Rattle.keep_ledger.proofs.noting.notes_of.Given as goal

abbrev pub invariant-loop-before : goal.invariant-loop-before
invariant-loop-before l =
    (facet : Facet) → mentions l.touch facet ++ filter_map (mention_of facet) (above l.history.journal l.before) ≡ filter_map (mention_of facet) (committed l.history.journal)
