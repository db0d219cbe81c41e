use Rattle.std.proofs.Common.{◌≡◌, map, take}
use Rattle.keep_sources.specs.Took.{skip_view}
use Rattle.keep_backups.proofs.backing_up.copies.Given as goal

abbrev pub invariant-loop-one : goal.invariant-loop-one
invariant-loop-one l = map skip_view l.copies.items ≡ map skip_view (take l.one-index l.skipped)
