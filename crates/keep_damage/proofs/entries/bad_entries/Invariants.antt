use Rattle.std.proofs.Common.{◌≡◌, [], drop}
use Rattle.keep_damage.specs.Compared.{noted}
use Rattle.keep_damage.specs.Entries.{entry_finding}
use Rattle.keep_damage.proofs.entries.bad_entries.Given as goal

abbrev pub invariant-loop-sign : goal.invariant-loop-sign
invariant-loop-sign l = noted (entry_finding l.first) (drop l.sign-index l.signs) l.found.items ≡ noted (entry_finding l.first) l.signs []
