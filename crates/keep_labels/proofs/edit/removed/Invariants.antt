use Rattle.std.proofs.Common.{◌≡◌, take, map, string_bytes}
use Rattle.keep_labels.specs.Edits.{with_removed}
use Rattle.keep_labels.proofs.edit.removed.Given as goal

abbrev pub invariant-loop-tag : goal.invariant-loop-tag
invariant-loop-tag l =
    map string_bytes l.made.items ≡ with_removed (map string_bytes (take l.tag-index l.tags)) (map string_bytes l.remove)
