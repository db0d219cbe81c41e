-- The tags that an edit makes are texts.
use Rattle.std.proofs.Common.{ℕ, Bool, true, false, cond, List, [], ◌∷◌, ◌++◌, map, filter, not, All, IfSome, IsUtf8, Option, None, Some, option_map, String, string_bytes}
use Rattle.std.proofs.lemmas.List.Elements.{All-from_recursion, recursion_from_All}
use Rattle.std.proofs.lemmas.Str.{IsUtf8-string_bytes}
use Rattle.std.specs.Global.{Global, Vec}
use Rattle.std.specs.List.{AllByRecursion}
use Rattle.keep_labels.specs.Edits.{EditData, Tags, edited, edited_by, fresh_tags, has_tag, with_added}
use Rattle.keep_safety.specs.SafeLabels.{EditsAreTexts, HasTexts}

abbrev AreTexts : Tags → Type 0
AreTexts tags = AllByRecursion IsUtf8 tags

both : (tags others : Tags) → AreTexts tags → AreTexts others → AreTexts (tags ++ others)
both [] others h g = g
both (t ∷ tags) others h g = (h.0, both tags others h.1 g)

fresh_texts : (there tags : Tags) → AreTexts tags → AreTexts (fresh_tags there tags)
fresh_texts there [] h = tt
fresh_texts there (t ∷ tags) h = cases (fresh_texts there tags h.1) (fresh_texts (there ++ t ∷ []) tags h.1) (has_tag there t) where
  cases : AreTexts (fresh_tags there tags) → AreTexts (fresh_tags (there ++ t ∷ []) tags) → (b : Bool) → AreTexts (cond b (fresh_tags there tags) (t ∷ fresh_tags (there ++ t ∷ []) tags))
  cases same more true = same
  cases same more false = (h.0, more)

left_texts : (p : List ℕ → Bool) (tags : Tags) → AreTexts tags → AreTexts (filter p tags)
left_texts p [] h = tt
left_texts p (t ∷ tags) h = cases (left_texts p tags h.1) (p t) where
  cases : AreTexts (filter p tags) → (b : Bool) → AreTexts (cond b (t ∷ filter p tags) (filter p tags))
  cases rest true = (h.0, rest)
  cases rest false = rest

made_texts : (set : Option Tags) (add remove tags : Tags) → IfSome set (All IsUtf8) → AreTexts add → AreTexts tags → AreTexts (edited_by set add remove tags)
made_texts None add remove tags set added h =
    left_texts (λ tag. not (has_tag remove tag)) (with_added tags add) (both tags (fresh_tags tags add) h (fresh_texts tags add added))
made_texts (Some set) add remove tags texts added h = fresh_texts [] set (recursion_from_All IsUtf8 set texts)

pub edited_texts : (edit : EditData) (tags : Tags) → HasTexts edit → All IsUtf8 tags → All IsUtf8 (edited edit tags)
edited_texts edit tags texts h =
    All-from_recursion IsUtf8 (edited edit tags)
    (made_texts edit.replace edit.add edit.remove tags texts.set (recursion_from_All IsUtf8 edit.add texts.added) (recursion_from_All IsUtf8 tags h))

-- what is asked for in texts

pub all_strings : (texts : List (String Global)) → All IsUtf8 (map string_bytes texts)
all_strings texts = All-from_recursion IsUtf8 (map string_bytes texts) (each texts) where
  each : (texts : List (String Global)) → AreTexts (map string_bytes texts)
  each [] = tt
  each (t ∷ ts) = (IsUtf8-string_bytes t, each ts)

set_strings : (set : Option (Vec (String Global))) → IfSome (option_map (λ (v : Vec (String Global)). map string_bytes v.items) set) (All IsUtf8)
set_strings None = tt
set_strings (Some set) = all_strings set.items

pub edits_are_texts : EditsAreTexts
edits_are_texts edit = record { set = set_strings edit.replace; added = all_strings edit.add.items }
