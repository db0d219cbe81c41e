-- What moves make of what stands on a shelf.
use Rattle.std.specs.Prelude.{◌≡◌, ℕ, Bool, true, false, ◌||◌, ◌&&◌, List, [], ◌∷◌, Option, Some, None, is_some, is_none, if◌then◌else◌}
use Rattle.std.specs.List.{AllByRecursion, list_all}
use Rattle.std.specs.Ordering.{eq_by_cmp}
use Rattle.keep_shelf.specs.Key.{key_cmp}
use Rattle.keep_shelf.specs.declared.key.Key.{Key}
use Rattle.keep_moves.specs.declared.moves.Move.{Move}
use Rattle.keep_moves.specs.declared.moves.Move.TheVariants.{Put, Shift, Erase}

-- what stands under each key, none where nothing does
abbrev pub Stand : Type 0
Stand = Key → Option (List ℕ)

-- whether the two are one key
abbrev pub key_eq : Key → Key → Bool
key_eq = eq_by_cmp key_cmp

-- what stands under each key after the move
abbrev pub moved : Move → Stand → Stand
moved (Put key bytes) stand q = if key_eq q key then Some bytes else stand q
moved (Shift from to) stand q = if key_eq q from then None else (if key_eq q to then stand from else stand q)
moved (Erase key) stand q = if key_eq q key then None else stand q

-- and after all of these, in turn
abbrev pub moved_all : List Move → Stand → Stand
moved_all [] stand = stand
moved_all (m ∷ ms) stand = moved_all ms (moved m stand)

-- whether the move is still to be made: what it takes is there, and where it puts something is nothing
abbrev pub remains : Stand → Move → Bool
remains stand (Put key bytes) = is_none (stand key)
remains stand (Shift from to) = is_some (stand from) && is_none (stand to)
remains stand (Erase key) = is_some (stand key)

-- whether the move takes from the key, or puts something there
abbrev pub uses : Move → Key → Bool
uses (Put key bytes) q = key_eq q key
uses (Shift from to) q = key_eq q from || key_eq q to
uses (Erase key) q = key_eq q key

-- no key is used by both
abbrev pub AreApart : Move → Move → Type 0
AreApart m p = (q : Key) → uses m q ≡ true → uses p q ≡ false

-- no key is used by two of the moves
abbrev pub AllApart : List Move → Type 0
AllApart [] = Unit {0}
AllApart (m ∷ ms) = AllByRecursion (AreApart m) ms × AllApart ms

-- all of the moves are still to be made, and none is in the way of another
pub record CanMake (ms : List Move) (stand : Stand) : Type 0 where
  pub apart : AllApart ms
  pub remain : list_all (remains stand) ms ≡ true

-- what stands under each key once the move is made, be it made already or not
abbrev pub finished : Move → Stand → Stand
finished m stand = if remains stand m then moved m stand else stand

-- and once all of these are made
abbrev pub finished_all : List Move → Stand → Stand
finished_all [] stand = stand
finished_all (m ∷ ms) stand = finished_all ms (finished m stand)
