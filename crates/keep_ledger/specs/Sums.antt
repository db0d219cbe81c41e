-- What the total of a watch is the sum of.
use Rattle.std.specs.Prelude.{◌≡◌, ℕ, ◌≤◌, List, nat_lt, filter, map, sum_by}
use Rattle.std.specs.List.{All}
use Rattle.keep_hooks.specs.Guards.{ArmedData, Tally}
use Rattle.keep_hooks.specs.Measures.{measure_of}
use Rattle.keep_hooks.specs.declared.measure.Measure.{Measure}
use Rattle.keep_journal.specs.History.{length_of}
use Rattle.keep_journal.specs.Journal.{Journal}
use Rattle.keep_ledger.specs.Guarding.{outline_in}

-- how much the events after the one of this number count for, all together
abbrev pub count_since : Journal → ℕ → Measure → ℕ
count_since j since measure =
    sum_by (λ e. measure_of measure (outline_in j e.event)) (filter (λ e. nat_lt since e.at) j.entries)

-- the total of a watch: how much the events since it was armed count for
abbrev pub sum_of : Journal → ArmedData → Tally
sum_of j watch = record { name = watch.name; measure = watch.measure; total = count_since j watch.since watch.measure }

-- those of the watches
abbrev pub sums_of : Journal → List ArmedData → List Tally
sums_of j watches = map (sum_of j) watches

-- no watch was armed at a length that the history doesn't have yet, and these are the totals of all
abbrev pub AreSums : Journal → List ArmedData → List Tally → Type 0
AreSums j watches tallies = All (λ (watch : ArmedData). watch.since ≤ length_of j) watches × (tallies ≡ sums_of j watches)
