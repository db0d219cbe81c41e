use Rattle.std.proofs.Common.{◌≡◌, ℕ, ◌≤◌, ◌++◌, List, length, Option, None, drop, map, option_map, sym, ap, ◌∙◌, append-nil}
use Rattle.std.proofs.lemmas.List.{drop_all}
use Rattle.std.specs.Borrow.{Bor}
use Rattle.keep_snap.specs.declared.fact.SnapFacts.{SnapFacts}
use Rattle.keep_labels.specs.Orders.{group_cmp}
use Rattle.keep_labels.specs.Walk.{seen_view}
use Rattle.keep_labels.specs.declared.group_row.Row.{Row}
use Rattle.keep_labels.proofs.Counting.{group_total}
use Rattle.keep_labels.proofs.Numbered.{numbered, numbers_agree, row_pair, views_numbered}
use Rattle.keep_labels.proofs.Sorting.{climbs_sorted}
use Rattle.keep_labels.proofs.groups.numbered.Goals as goal

-- at the end of the loop all have their numbers
all_numbered : (rows : List Row) (group : ℕ) (last : Option (Bor SnapFacts)) (i : ℕ) (sorted : List (Bor SnapFacts)) → length sorted ≤ i
    → map row_pair rows ++ numbered group (option_map seen_view last) (map seen_view (drop i sorted)) ≡ numbered 0 None (map seen_view sorted)
    → map row_pair rows ≡ numbered 0 None (map seen_view sorted)
all_numbered rows group last i sorted end rest =
    sym (append-nil (map row_pair rows))
    ∙ ap (λ xs. map row_pair rows ++ numbered group (option_map seen_view last) (map seen_view xs)) (sym (drop_all i sorted end))
    ∙ rest

pub invariant_of-result : goal.invariant_of-result
invariant_of-result c = record {
  grouped = numbers_agree c.loop-facts.items.items (map seen_view c.args.sorted.now)
      (all_numbered c.loop-facts.items.items c.loop-facts.group c.loop-facts.last c.loop-facts.facts-index c.args.sorted.now c.loop-facts-test.false c.loop-facts.invariant.rest)
      (climbs_sorted seen_view group_cmp group_total c.args.sorted.now c.requires);
}

pub returns : goal.returns
returns c =
    views_numbered c.loop-facts.items.items (map seen_view c.args.sorted.now)
    (all_numbered c.loop-facts.items.items c.loop-facts.group c.loop-facts.last c.loop-facts.facts-index c.args.sorted.now c.loop-facts-test.false c.loop-facts.invariant.rest)
