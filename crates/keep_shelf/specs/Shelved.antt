-- A shelf as a value: what stands on it, what its calls left there, and how many failed.
use Rattle.std.specs.Prelude.{ℕ, ◌+◌, ◌-◌, ◌^◌, min, List, [], ◌∷◌, ◌++◌, refl}
use Rattle.std.specs.Coded.{Coded, code_by, coded_ℕ, coded_list, coded×}
use Rattle.std.specs.FinMap as map
use Rattle.std.specs.Option.{option_map_or}
use Rattle.keep_shelf.specs.Key.{coded_key, key_cmp}
use Rattle.keep_shelf.specs.declared.key.Key.{Key}

-- the bytes under each key
abbrev pub Content : Type 0
Content = map.FinMap key_cmp (List ℕ)

pub record Shelved : Type 0 where
  -- what stood on the shelf when it was made
  pub made : Content
  -- what stands on it
  pub content : Content
  -- how many calls failed, up to a last value
  pub failures : ℕ
  -- the record: what each call that didn't fail left, in order
  pub calls : List Content

-- a shelf just made, with this on it
abbrev pub stocked : Content → Shelved
stocked content = record { made = content; content = content; failures = 0; calls = [] }

-- a call didn't fail, and left this
abbrev pub called : Shelved → Content → Shelved
called s content = record s { content = content; calls = s.calls ++ content ∷ [] }

-- one more, up to the greatest number of 64 bits
abbrev pub risen : ℕ → ℕ
risen n = min (n + 1) (2 ^ 64 - 1)

-- a call failed: it is counted, and all else stays
abbrev pub failed : Shelved → Shelved
failed s = record s { failures = risen s.failures }

-- what was under the first key is under the second
abbrev pub shifted : Content → Key → Key → Content
shifted content from to =
    option_map_or (λ bytes. map.remove (map.insert content to bytes) from) (map.get content from) content

abbrev pub coded_content : Coded Content
coded_content = map.code coded_key (coded_list coded_ℕ)

abbrev pub coded_shelved : Coded Shelved
coded_shelved =
    code_by (Content × (Content × (ℕ × List Content)))
    (coded× coded_content (coded× coded_content (coded× coded_ℕ (coded_list coded_content))))
    (λ s. (s.made, (s.content, (s.failures, s.calls))))
    (λ p. record { made = p.0; content = p.1.0; failures = p.1.1.0; calls = p.1.1.1 }) (λ _. refl)
