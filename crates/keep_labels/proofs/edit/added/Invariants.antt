use Rattle.std.proofs.Common.{◌≡◌, drop, map, string_bytes}
use Rattle.keep_labels.specs.Edits.{with_added}
use Rattle.keep_labels.proofs.edit.added.Given as goal

abbrev pub invariant-loop-tag : goal.invariant-loop-tag
invariant-loop-tag l =
    with_added (map string_bytes l.tags.items) (map string_bytes (drop l.tag-index l.add))
    ≡ with_added (map string_bytes l.fn.tags.items) (map string_bytes l.add)
