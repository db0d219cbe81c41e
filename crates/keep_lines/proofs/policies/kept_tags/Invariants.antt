use Rattle.std.proofs.Common.{◌≡◌, ◌++◌, drop, map, string_bytes}
use Rattle.std.specs.List.{filter_map}
use Rattle.keep_lines.specs.Policies.{kept_by}
use Rattle.keep_lines.proofs.policies.kept_tags.Given as goal

abbrev pub invariant-loop-rule : goal.invariant-loop-rule
invariant-loop-rule l =
    map string_bytes l.tags.items ++ filter_map kept_by (drop l.rule-index l.rules) ≡ filter_map kept_by l.rules
