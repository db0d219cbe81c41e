-- What a shift does where something is under the key, and where nothing is.
use Rattle.std.proofs.Common.{◌≡◌, ℕ, List, ap}
use Rattle.std.specs.Prelude.{Option, Some, None}
use Rattle.std.specs.FinMap as map
use Rattle.std.specs.Option.{option_map_or}
use Rattle.keep_shelf.specs.Shelved.{Content, shifted}
use Rattle.keep_shelf.specs.declared.key.Key.{Key}

pub shifted-filled : (content : Content) (from to : Key) (bytes : List ℕ) → Some bytes ≡ map.get content from → map.remove (map.insert content to bytes) from ≡ shifted content from to
shifted-filled content from to bytes there =
    ap (λ (o : Option (List ℕ)). option_map_or (λ b. map.remove (map.insert content to b) from) o content) there

pub shifted-empty : (content : Content) (from to : Key) → None ≡ map.get content from → content ≡ shifted content from to
shifted-empty content from to none =
    ap (λ (o : Option (List ℕ)). option_map_or (λ b. map.remove (map.insert content to b) from) o content) none

-- what a shift rests on
pub ruleset shifting = (shifted-filled, shifted-empty)
