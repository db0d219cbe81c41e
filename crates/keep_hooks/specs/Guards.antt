-- What vetoes and watches are stored with, and what they say of an event together.
use Rattle.std.specs.Prelude.{ℕ, ◌+◌, ◌^◌, ◌<◌, List, Option, map}
use Rattle.std.specs.Option.{option_map}
use Rattle.std.specs.List.{find}
use Rattle.keep_change.specs.declared.outline.Outline.{Outline}
use Rattle.keep_hooks.specs.Limits.{refuses}
use Rattle.keep_hooks.specs.Measures.{measure_of}
use Rattle.keep_hooks.specs.declared.limit.Limit.{Limit}
use Rattle.keep_hooks.specs.declared.measure.Measure.{Measure}

-- a veto: its name, and the limit that it answers by
pub record Rule : Type 0 where
  pub name : List ℕ
  pub limit : Limit

-- the name of the first of the vetoes that refuses the event
abbrev pub first_refusing : List Rule → Outline → Option (List ℕ)
first_refusing rules o = option_map (λ (rule : Rule). rule.name) (find (λ rule. refuses rule.limit o) rules)

-- a watch: its name, and what it counts
pub record WatchData : Type 0 where
  pub name : List ℕ
  pub measure : Measure

-- a watch that is armed: its name, what it counts, and the length of the history at which it was armed
pub record ArmedData : Type 0 where
  pub name : List ℕ
  pub measure : Measure
  pub since : ℕ

-- what is armed, without totals: vetoes and watches, each list in the order in which they were armed
pub record HooksData : Type 0 where
  pub vetoes : List Rule
  pub watches : List ArmedData

-- an armed watch's name, what it counts, and its total so far
pub record Tally : Type 0 where
  pub name : List ℕ
  pub measure : Measure
  pub total : ℕ

-- a watch's name and what it counts, and the total of no events
abbrev pub untold : WatchData → Tally
untold watch = record { name = watch.name; measure = watch.measure; total = 0 }

-- the total has room for more events
abbrev pub HasRoom : Tally → Type 0
HasRoom tally = tally.total < 2 ^ 63

-- the total grows by what the event counts for
abbrev pub tally_after : Outline → Tally → Tally
tally_after o tally = record tally { total = tally.total + measure_of tally.measure o }

-- each total grows so
abbrev pub tallies_after : Outline → List Tally → List Tally
tallies_after o tallies = map (tally_after o) tallies
