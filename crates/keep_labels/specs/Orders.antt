-- The orders of snapshots: by group, by period, and by age.
use Rattle.std.specs.Cmp.Lexicographic.{slice_cmp}
use Rattle.std.specs.Ordering.{flip_args, int_cmp, nat_cmp, on, then_cmp}
use Rattle.std.specs.declared.cmp.Ordering.{Ordering}
use Rattle.keep_names.specs.Orders.{id_cmp}
use Rattle.keep_snap.specs.Facts.{FactsData}
use Rattle.keep_labels.specs.declared.order.Counted.{Counted}
use Rattle.keep_labels.specs.declared.order.Counted.TheVariants.{Snapshots, Days, Weeks, Months, Years}

-- by the list of paths, each by its bytes
abbrev pub paths_cmp : FactsData → FactsData → Ordering
paths_cmp = on (λ s. s.paths) (slice_cmp (slice_cmp nat_cmp))

-- by host, and then by the list of paths; those that tie are a group
abbrev pub group_cmp : FactsData → FactsData → Ordering
group_cmp = then_cmp (on (λ s. s.host) (slice_cmp nat_cmp)) paths_cmp

-- the newer first, and of those of one instant the lesser name
abbrev pub age_cmp : FactsData → FactsData → Ordering
age_cmp = then_cmp (on (λ s. s.instant) (flip_args int_cmp)) (on (λ s. s.name) id_cmp)

-- the later month first, by its year and then by its number
abbrev pub later_month_cmp : FactsData → FactsData → Ordering
later_month_cmp = then_cmp (on (λ s. s.month.year) (flip_args int_cmp)) (on (λ s. s.month.month) (flip_args nat_cmp))

-- the later period first, by the written date; where snapshots are counted, each is a period of its own
abbrev pub period_cmp : Counted → FactsData → FactsData → Ordering
period_cmp Snapshots = age_cmp
period_cmp Days = on (λ s. s.day) (flip_args int_cmp)
period_cmp Weeks = on (λ s. s.week) (flip_args int_cmp)
period_cmp Months = later_month_cmp
period_cmp Years = on (λ s. s.year) (flip_args int_cmp)

-- by group, and in a group the later period first; those that tie are of one group and period
abbrev pub later_first_cmp : Counted → FactsData → FactsData → Ordering
later_first_cmp counted = then_cmp group_cmp (period_cmp counted)

-- by group and period, and in a period the newer first
abbrev pub sorting_cmp : Counted → FactsData → FactsData → Ordering
sorting_cmp counted = then_cmp (later_first_cmp counted) age_cmp
