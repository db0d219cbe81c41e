use Rattle.std.proofs.Common.{◌≡◌, drop, map}
use Rattle.keep_jobs.specs.Kits.{named_rule, rule_named}
use Rattle.keep_jobs.proofs.kit.Kit.filter.Given as goal

abbrev pub invariant-loop-filter : goal.invariant-loop-filter
invariant-loop-filter g l =
    rule_named l.name (map named_rule (drop l.filter-index l.self.filters.items)) ≡ rule_named l.name (map named_rule l.self.filters.items)
