use Rattle.std.proofs.Common.{◌≡◌, take, map, string_bytes}
use Rattle.keep_labels.proofs.edit.Edit.apply.Given as goal

abbrev pub invariant-loop-tag : goal.invariant-loop-tag
invariant-loop-tag l = map string_bytes l.made.items ≡ map string_bytes (take l.tag-index l.tags)
