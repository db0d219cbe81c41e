use Rattle.std.proofs.Common.{◌≡◌, take}
use Rattle.keep_named.specs.Meaning.{begun_by}
use Rattle.keep_named.proofs.snapshot_names.beginning.Given as goal

abbrev pub invariant-loop-id : goal.invariant-loop-id
invariant-loop-id l = l.found.items ≡ begun_by l.text (take l.id-index l.ids)
