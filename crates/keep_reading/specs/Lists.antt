-- The entries that stand on a shelf.
use Rattle.std.specs.Prelude.{ℕ, List, Option, Some, None}
use Rattle.std.specs.List.{AllByRecursion}
use Rattle.keep_journal.specs.History.{AscendFrom}
use Rattle.keep_journal.specs.declared.event.Entry as the_entry
use Rattle.keep_journal.specs.Lasting.{entry_at}
use Rattle.keep_shelf.specs.declared.key.Key.TheVariants.{Entry}
use Rattle.keep_entries.specs.Entry.{IsEntry, Spells}
use Rattle.keep_moves.specs.Move.{Stand}

-- what stands under an entry's key spells the entry of its number, or there is neither
abbrev pub IsListed : Option (List ℕ) → Option the_entry.Entry → Type 0
IsListed None None = Unit {0}
IsListed (Some bytes) (Some e) = Spells bytes e.event
IsListed _ _ = ⊥

-- what stands under the keys of entries are these, by number
pub record Lists (stand : Stand) (entries : List the_entry.Entry) : Type 0 where
  pub each : AllByRecursion IsEntry entries
  pub ascending : AscendFrom 0 entries
  pub listed : (k : ℕ) → IsListed (stand (Entry k)) (entry_at entries k)
