use Rattle.std.proofs.Common.{◌≡◌, drop}
use Rattle.std.specs.List.{list_all}
use Rattle.keep_opening.specs.Wanted.{is_same_at}
use Rattle.keep_opening.proofs.trash.agree_at.Given as goal

abbrev pub invariant-loop-key : goal.invariant-loop-key
invariant-loop-key l = list_all (is_same_at l.one l.other) (drop l.key-index l.keys) ≡ list_all (is_same_at l.one l.other) l.keys
