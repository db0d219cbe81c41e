use Rattle.std.proofs.Common.{◌≡◌, ◌-◌}
use Rattle.keep_sources.proofs.Pieces.{HasCopied}
use Rattle.keep_sources.proofs.taking.Taking.copy.Given as goal

abbrev pub decreases-reading : goal.decreases-reading
decreases-reading g l = l.limit - l.size

-- what was read so far was given, and nothing more is named
abbrev pub invariant-reading : goal.invariant-reading
invariant-reading g l =
    HasCopied g.S.Source.told g.A.Receives.gives l.path (g.A.Receives.seen l.initial.self.archive) (g.A.Receives.seen l.self.archive) l.size
    × (l.self.skipped ≡ l.initial.self.skipped)
