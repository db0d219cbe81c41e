-- What is stored in a kit, as data.
use Rattle.std.specs.Prelude.{ℕ, List, Option, map, option_map, string_bytes}
use Rattle.std.specs.List.{find}
use Rattle.std.specs.Str.{bytes_eq}
use Rattle.keep_hooks.specs.Guards.{Rule, WatchData}
use Rattle.keep_hooks.specs.Rules.{rules_of, watches_of}
use Rattle.keep_plan.specs.declared.filter.Filter.{Filter}
use Rattle.keep_jobs.specs.declared.kit.Kit.{Kit}
use Rattle.keep_plan.specs.declared.pick.Pick.{Pick}

-- the name of a filter, and the rule that it answers by
abbrev pub NamedRule : Type 0
NamedRule = List ℕ × Pick

abbrev pub named_rule : {I F g : _} → Filter I F g → NamedRule
named_rule filter = (string_bytes filter.name, filter.rule)

-- those of the filters of a kit, in their order
abbrev pub filters_of : {I J K F G H f g h : _} → Kit I J K F G H f g h → List NamedRule
filters_of kit = map named_rule kit.filters.items

-- the rule of the first filter of this name
abbrev pub rule_named : List ℕ → List NamedRule → Option Pick
rule_named name filters = option_map (λ named. named.1) (find (λ named. bytes_eq named.0 name) filters)

-- what is stored in a kit: its filters, vetoes and watches
pub record KitData : Type 0 where
  pub filters : List NamedRule
  pub vetoes : List Rule
  pub watches : List WatchData

-- the filters, vetoes and watches of a kit, without the questions that they are stored with
abbrev pub kit_view : {I J K F G H f g h : _} → Kit I J K F G H f g h → KitData
kit_view kit = record {
  filters = filters_of kit;
  vetoes = rules_of kit.vetoes.items;
  watches = watches_of kit.watches.items;
}
