-- What a walk over the keys of a shelf takes in, and where it stops short.
use Rattle.std.specs.Prelude.{◌≡◌, ℕ, ◌<◌, ◌≤◌, List, [], ◌∷◌, Option}
use Rattle.std.specs.FinMap as map
use Rattle.std.specs.Option.{option_map_or}
use Rattle.keep_shelf.specs.Shelved.{Content, Shelved, failed}
use Rattle.keep_shelf.specs.declared.key.Key.{Key}
use Rattle.keep_moves.specs.Calls.{looks, played}
use Rattle.keep_opening.specs.declared.open_error.OpenError.{OpenError}
use Rattle.keep_opening.specs.declared.open_error.OpenError.TheVariants.{BadEntry, Fault, Memory}

-- the content with what was found under the key
abbrev pub with_found : Key → Option (List ℕ) → Content → Content
with_found key found content = option_map_or (map.insert content key) found content

-- and with what stands under each of these
abbrev pub taken_into : Content → List Key → Content → Content
taken_into content [] taken = taken
taken_into content (key ∷ keys) taken = taken_into content keys (with_found key (map.get content key) taken)

-- what is left of a shelf by a walk of so many reads that stops short: one of them failed, and was the last call, or
-- memory ran out behind some of them
abbrev pub StopsShort : ℕ → Shelved → OpenError → Shelved → Type 0
StopsShort count s (BadEntry k) left = ⊥
StopsShort count s Fault left = (i : ℕ) × (i < count) × (left ≡ failed (played (looks i) s))
StopsShort count s Memory left = (i : ℕ) × (i ≤ count) × (left ≡ played (looks i) s)
