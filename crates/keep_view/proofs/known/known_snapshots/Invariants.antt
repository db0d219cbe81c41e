-- What is known by now, and what the changes that are left tell, is all that is known.
use Rattle.std.proofs.Common.{◌≡◌, ◌||◌}
use Rattle.std.specs.BTreeSet.{contains}
use Rattle.keep_names.specs.Orders.{id_cmp}
use Rattle.keep_names.specs.declared.id.Id.{Id}
use Rattle.keep_journal.specs.Kept.{unfinal}
use Rattle.keep_journal.specs.Opening.{opening_under}
use Rattle.keep_view.proofs.Knowing.{known_in}
use Rattle.keep_view.proofs.Told.{told_above}
use Rattle.keep_view.proofs.known.known_snapshots.Given as goal

abbrev pub invariant-loop-before : goal.invariant-loop-before
invariant-loop-before l =
    (id : Id) → (contains id_cmp l.known id || told_above l.history.journal l.before id)
    ≡ known_in (opening_under l.history.journal l.live) (unfinal l.history.journal) id
