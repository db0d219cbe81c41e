use Rattle.std.proofs.Common.{◌≡◌, drop, map, string_bytes}
use Rattle.keep_labels.specs.Edits.{has_empty_tag}
use Rattle.keep_labels.proofs.edit.has_empty_tag.Given as goal

abbrev pub invariant-loop-tag : goal.invariant-loop-tag
invariant-loop-tag l =
    has_empty_tag (map string_bytes (drop l.tag-index l.tags)) ≡ has_empty_tag (map string_bytes l.tags)
