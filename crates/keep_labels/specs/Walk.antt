-- What the walk over the sorted snapshots asks and tells.
use Rattle.std.specs.Prelude.{◌≡◌, ℕ, Bool, false, List, [], ◌∷◌, Option, None, Some, filter, map}
use Rattle.std.specs.Borrow.{Bor}
use Rattle.std.specs.List.{AllByRecursion}
use Rattle.std.specs.Ordering.{is_eq}
use Rattle.std.specs.declared.cmp.Ordering.{Ordering}
use Rattle.std.specs.declared.cmp.Ordering.TheVariants.{Less}
use Rattle.keep_names.specs.declared.id.Id.{Id}
use Rattle.keep_snap.specs.Facts.{FactsData, facts_view}
use Rattle.keep_snap.specs.declared.fact.SnapFacts.{SnapFacts}
use Rattle.keep_labels.specs.Keeping.{is_counted}
use Rattle.keep_labels.specs.declared.order.Counted.{Counted}

abbrev pub seen_view : Bor SnapFacts → FactsData
seen_view facts = facts_view facts.now

-- each comes before all that stand behind it
abbrev pub Rises : {X : Type 0} → (X → X → Ordering) → List X → Type 0
Rises cmp [] = Unit {0}
Rises cmp (x ∷ xs) = AllByRecursion (λ t. cmp x t ≡ Less) xs × Rises cmp xs

-- whether there is a last one, and it ties with this one
abbrev pub follows : {X : Type 0} → (X → X → Ordering) → Option X → X → Bool
follows cmp None x = false
follows cmp (Some last) x = is_eq (cmp last x)

-- the names of those that the count keeps
abbrev pub names_counted : Counted → ℕ → List FactsData → List Id
names_counted counted most all = map (λ s. s.name) (filter (is_counted counted most all) all)
