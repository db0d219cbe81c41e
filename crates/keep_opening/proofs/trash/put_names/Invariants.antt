use Rattle.std.proofs.Common.{◌≡◌, drop}
use Rattle.keep_opening.specs.Filing.{lived_in}
use Rattle.keep_opening.proofs.trash.put_names.Given as goal

abbrev pub invariant-loop-name : goal.invariant-loop-name
invariant-loop-name l = lived_in l.live.files (drop l.name-index l.names) l.stock ≡ lived_in l.live.files l.names l.initial.stock
