-- Those that are copied, with the rest, are all.
use Rattle.std.proofs.Common.{◌≡◌, ◌++◌, drop, map}
use Rattle.keep_sources.specs.Took.{skip_view}
use Rattle.keep_rescue.proofs.rescuing.copied.Given as goal

abbrev pub invariant-loop-one : goal.invariant-loop-one
invariant-loop-one l = map skip_view l.made.items ++ map skip_view (drop l.one-index l.skipped) ≡ map skip_view l.skipped
