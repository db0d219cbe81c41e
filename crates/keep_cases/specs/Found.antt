-- What a walk over keys finds in a content.
use Rattle.std.specs.Prelude.{List, [], ◌∷◌}
use Rattle.std.specs.FinMap as map
use Rattle.std.specs.Option.{option_map_or}
use Rattle.keep_shelf.specs.Shelved.{Content}
use Rattle.keep_shelf.specs.declared.key.Key.{Key}

-- what is held, and then what the content has under each of these keys
abbrev pub found_under : Content → List Key → Content → Content
found_under content [] held = held
found_under content (key ∷ keys) held =
    found_under content keys (option_map_or (λ bytes. map.insert held key bytes) (map.get content key) held)
