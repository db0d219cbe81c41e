-- What stands under the keys of entries, be it an entry or not.
use Rattle.std.specs.Prelude.{ℕ, ◌==◌, List, map, Option, Some, None}
use Rattle.std.specs.List.{filter_map, find}
use Rattle.std.specs.List.Sorted.{IsStrictlySortedBy}
use Rattle.std.specs.Option.{option_map}
use Rattle.std.specs.Ordering.{nat_cmp}
use Rattle.keep_journal.specs.declared.event.Entry as the_entry
use Rattle.keep_journal.specs.declared.event.Event.{Event}
use Rattle.keep_shelf.specs.declared.key.Key.TheVariants.{Entry}
use Rattle.keep_entries.specs.Entry.{IsEntry, Spells, SaysNothing}
use Rattle.keep_moves.specs.Move.{Stand}
use Rattle.keep_reading.specs.declared.leaf.Leaf.{Leaf}

-- the leaf of this number
abbrev pub leaf_at : List Leaf → ℕ → Option Leaf
leaf_at leaves k = find (λ leaf. leaf.at == k) leaves

-- the bytes under this number spell the event, or no entry where there is none
abbrev pub Tells : ℕ → List ℕ → Option Event → Type 0
Tells k bytes (Some event) = IsEntry (record { at = k; event = event }) × Spells bytes event
Tells k bytes None = SaysNothing k bytes

-- the leaf says of the bytes what they tell, or there is neither
abbrev pub IsLeaf : Option (List ℕ) → Option Leaf → Type 0
IsLeaf None None = Unit {0}
IsLeaf (Some bytes) (Some leaf) = Tells leaf.at bytes leaf.event
IsLeaf _ _ = ⊥

-- these are the leaves of what stands on the shelf, by number
pub record AreLeaves (stand : Stand) (leaves : List Leaf) : Type 0 where
  pub ascend : IsStrictlySortedBy nat_cmp (map (λ leaf. leaf.at) leaves)
  pub each : (k : ℕ) → IsLeaf (stand (Entry k)) (leaf_at leaves k)

-- the entry that the leaf has, if it has one
abbrev pub entry_of : Leaf → Option the_entry.Entry
entry_of leaf = option_map (λ event. record { at = leaf.at; event = event }) leaf.event

abbrev pub entries_of : List Leaf → List the_entry.Entry
entries_of leaves = filter_map entry_of leaves
