-- One folder more was made.
use Rattle.std.proofs.Common.{◌≡◌, ◌∙◌, ℕ, Bool, true, false, cond, List, Option, Some, option_map, string_bytes, refl, ap}
use Rattle.std.proofs.lemmas.Map.Text.{btree_map_updates_text}
use Rattle.std.specs.BTreeMap as tree
use Rattle.std.specs.BTreeMap.{BTreeMap, get_by_text}
use Rattle.std.specs.Cmp.Lexicographic.{slice_cmp}
use Rattle.std.specs.Ordering.{nat_cmp}
use Rattle.std.specs.Str.{bytes_eq}
use Rattle.std.specs.String.{string_cmp}
use Rattle.std.specs.declared.alloc.Global.{Global}
use Rattle.std.specs.declared.string.String.{String}
use Rattle.keep_putting.specs.Folders.{Folders}
use Rattle.keep_putting.specs.Places.{placed}

-- functions that are one at each path are one
same_folders : (a b : Folders) → ((path : List ℕ) → a path ≡ b path) → a ≡ b
same_folders a b same = λ k path. same path k

lifted : (b : Bool) (place : String Global) (other : Option (String Global))
    → option_map string_bytes (cond b (Some place) other) ≡ cond b (Some (string_bytes place)) (option_map string_bytes other)
lifted true place other = refl
lifted false place other = refl

pub noted : (before after : BTreeMap (String Global) (String Global)) (path : List ℕ) (place : String Global)
    → tree.UpdatesBy string_cmp (λ k. slice_cmp nat_cmp path (string_bytes k)) before after (Some place)
    → (λ (p : List ℕ). option_map string_bytes (get_by_text after p)) ≡ placed (λ p. option_map string_bytes (get_by_text before p)) path (string_bytes place)
noted before after path place updates =
    same_folders (λ p. option_map string_bytes (get_by_text after p)) (placed (λ p. option_map string_bytes (get_by_text before p)) path (string_bytes place))
    (λ q. ap (option_map string_bytes) (btree_map_updates_text path before after (Some place) updates q) ∙ lifted (bytes_eq path q) place (get_by_text before q))
