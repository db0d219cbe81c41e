use Rattle.std.proofs.Common.{◌≡◌, drop, map, string_bytes}
use Rattle.std.specs.List.{list_any}
use Rattle.keep_labels.specs.Edits.{has_tag}
use Rattle.keep_labels.proofs.policy.has_tag_of.Given as goal

abbrev pub invariant-loop-tag : goal.invariant-loop-tag
invariant-loop-tag l =
    list_any (has_tag (map string_bytes l.tags)) (map string_bytes (drop l.tag-index l.facts.tags.items))
    ≡ list_any (has_tag (map string_bytes l.tags)) (map string_bytes l.facts.tags.items)
