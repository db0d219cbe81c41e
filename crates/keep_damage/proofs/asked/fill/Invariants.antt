use Rattle.std.proofs.Common.{◌≡◌, drop}
use Rattle.keep_damage.specs.Asked.{filled}
use Rattle.keep_damage.proofs.asked.fill.Given as goal

abbrev pub invariant-loop-name : goal.invariant-loop-name
invariant-loop-name l = filled (drop l.name-index l.names) l.repo.files ≡ filled l.names l.initial.repo.files
