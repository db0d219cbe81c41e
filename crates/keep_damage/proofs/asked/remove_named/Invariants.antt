use Rattle.std.proofs.Common.{◌≡◌, drop}
use Rattle.keep_damage.specs.Asked.{without}
use Rattle.keep_damage.proofs.asked.remove_named.Given as goal

abbrev pub invariant-loop-name : goal.invariant-loop-name
invariant-loop-name l = without (drop l.name-index l.names) l.repo.files ≡ without l.names l.initial.repo.files
