-- Which snapshots a policy keeps.
use Rattle.std.specs.Prelude.{ℕ, ◌≤◌, Bool, false, not, ◌&&◌, ◌||◌, List, Option, None, Some, count_by, filter, map, option_map, string_bytes}
use Rattle.std.specs.List.{list_any}
use Rattle.std.specs.Ordering.{is_eq}
use Rattle.keep_names.specs.Orders.{id_cmp}
use Rattle.keep_names.specs.declared.id.Id.{Id}
use Rattle.keep_snap.specs.Facts.{FactsData}
use Rattle.keep_labels.specs.Counts.{is_among_last, is_first_of}
use Rattle.keep_labels.specs.Edits.{Tags, has_tag}
use Rattle.keep_labels.specs.Orders.{age_cmp, group_cmp, later_first_cmp}
use Rattle.keep_labels.specs.declared.order.Counted.{Counted}
use Rattle.keep_labels.specs.declared.order.Counted.TheVariants.{Snapshots, Days, Weeks, Months, Years}
use Rattle.keep_labels.specs.declared.policy.Policy.{Policy}

pub record PolicyData : Type 0 where
  pub last : Option ℕ
  pub daily : Option ℕ
  pub weekly : Option ℕ
  pub monthly : Option ℕ
  pub yearly : Option ℕ
  pub tags : Tags

-- what a `Policy` says
abbrev pub policy_view : Policy → PolicyData
policy_view policy = record {
  last = option_map (λ count. count.number) policy.last;
  daily = option_map (λ count. count.number) policy.daily;
  weekly = option_map (λ count. count.number) policy.weekly;
  monthly = option_map (λ count. count.number) policy.monthly;
  yearly = option_map (λ count. count.number) policy.yearly;
  tags = map string_bytes policy.tags.items;
}

-- whether one of so many is kept: of snapshots the last of each group, of days, weeks, months and years the
-- newest of each of the last that have one
abbrev pub is_counted : Counted → ℕ → List FactsData → FactsData → Bool
is_counted Snapshots most all s = is_among_last group_cmp age_cmp most all s
is_counted Days most all s = is_first_of group_cmp (later_first_cmp Days) age_cmp most all s
is_counted Weeks most all s = is_first_of group_cmp (later_first_cmp Weeks) age_cmp most all s
is_counted Months most all s = is_first_of group_cmp (later_first_cmp Months) age_cmp most all s
is_counted Years most all s = is_first_of group_cmp (later_first_cmp Years) age_cmp most all s

-- whether one of so many is kept, if the policy counts these
abbrev pub by_count : Counted → Option ℕ → List FactsData → FactsData → Bool
by_count counted None all s = false
by_count counted (Some most) all s = is_counted counted most all s

abbrev pub by_tag : Tags → FactsData → Bool
by_tag tags s = list_any (has_tag tags) s.tags

-- whether one of the policy's counts keeps the snapshot, or one of its tags
abbrev pub keeps : PolicyData → List FactsData → FactsData → Bool
keeps policy all s =
    by_count Snapshots policy.last all s || by_count Days policy.daily all s || by_count Weeks policy.weekly all s
    || by_count Months policy.monthly all s || by_count Years policy.yearly all s || by_tag policy.tags s

-- the names of those that aren't kept
abbrev pub dropped_names : PolicyData → List FactsData → List Id
dropped_names policy all = map (λ s. s.name) (filter (λ s. not (keeps policy all s)) all)

-- no name stands twice
abbrev pub EachOnce : List FactsData → Type 0
EachOnce all = (name : Id) → count_by (λ s. is_eq (id_cmp s.name name)) all ≤ 1

-- whether a snapshot of this name passes
abbrev pub has_passing : (FactsData → Bool) → List FactsData → Id → Bool
has_passing test all name = list_any (λ s. is_eq (id_cmp s.name name) && test s) all
