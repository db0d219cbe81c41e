use Rattle.std.proofs.Common.{◌≡◌, drop}
use Rattle.keep_opening.specs.Filing.{live_into}
use Rattle.keep_opening.proofs.made_files.put_keys.Given as goal

abbrev pub invariant-loop-key : goal.invariant-loop-key
invariant-loop-key l = live_into l.stock (drop l.key-index l.keys) l.repo ≡ live_into l.stock l.keys l.initial.repo
