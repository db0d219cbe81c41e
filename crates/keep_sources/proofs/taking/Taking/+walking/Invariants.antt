use Rattle.std.proofs.Common.{◌+◌, ◌*◌, map, take, string_bytes}
use Rattle.keep_sources.specs.Took.{Took}
use Rattle.keep_sources.proofs.taking.Taking.+walking.Given as goal

abbrev pub decreases-walk_listed : goal.decreases-walk_listed
decreases-walk_listed g l = 4 * l.levels + 3

abbrev pub decreases-walk_names : goal.decreases-walk_names
decreases-walk_names g l = 4 * l.levels + 2

abbrev pub decreases-walk_name : goal.decreases-walk_name
decreases-walk_name g l = 4 * l.levels + 1

abbrev pub decreases-walk_folder : goal.decreases-walk_folder
decreases-walk_folder g l = 4 * l.levels

-- the names so far were taken
abbrev pub invariant-walk_names-loop-name : goal.invariant-walk_names-loop-name
invariant-walk_names-loop-name g l =
    Took g.S.Source.told g.A.Receives.gives l.job l.levels l.folder (map string_bytes (take l.name-index l.names))
    (g.A.Receives.seen l.initial.self.archive) (g.A.Receives.seen l.self.archive) l.initial.self.skipped.items l.self.skipped.items
