use Rattle.std.proofs.Common.{◌≡◌, ◌++◌, drop, map, string_bytes}
use Rattle.std.specs.List.{filter_map}
use Rattle.keep_lines.specs.Edits.{tag_by}
use Rattle.keep_lines.proofs.edits.tags_of.Given as goal

abbrev pub invariant-loop-word : goal.invariant-loop-word
invariant-loop-word l =
    map string_bytes l.tags.items ++ filter_map (tag_by l.deed) (drop l.word-index l.words)
    ≡ filter_map (tag_by l.deed) l.words
