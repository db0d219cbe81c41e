-- What an edit makes of a list of tags, and which edits are bad.
use Rattle.std.specs.Prelude.{ℕ, Bool, true, false, cond, not, ◌&&◌, ◌||◌, List, [], ◌∷◌, ◌++◌, Option, None, Some, filter, map, option_map, string_bytes}
use Rattle.std.specs.Cmp.Lexicographic.{pointwise}
use Rattle.std.specs.List.{list_any}
use Rattle.std.specs.Str.{bytes_eq}
use Rattle.keep_labels.specs.declared.edit.Edit.{Edit}

-- each tag by its bytes
abbrev pub Tags : Type 0
Tags = List (List ℕ)

-- a list in the tags' place, or tags that are added and tags that are then removed
pub record EditData : Type 0 where
  pub replace : Option Tags
  pub add : Tags
  pub remove : Tags

-- what an `Edit` says
abbrev pub edit_view : Edit → EditData
edit_view edit = record {
  replace = option_map (λ set. map string_bytes set.items) edit.replace;
  add = map string_bytes edit.add.items;
  remove = map string_bytes edit.remove.items;
}

-- whether the tag is one of these
abbrev pub has_tag : Tags → List ℕ → Bool
has_tag tags tag = list_any (λ other. bytes_eq other tag) tags

-- those of a list that aren't there yet; of equal ones the first
abbrev pub fresh_tags : Tags → Tags → Tags
fresh_tags there [] = []
fresh_tags there (tag ∷ tags) =
    cond (has_tag there tag) (fresh_tags there tags) (tag ∷ fresh_tags (there ++ tag ∷ []) tags)

abbrev pub with_added : Tags → Tags → Tags
with_added tags add = tags ++ fresh_tags tags add

abbrev pub with_removed : Tags → Tags → Tags
with_removed tags remove = filter (λ tag. not (has_tag remove tag)) tags

abbrev pub edited_by : Option Tags → Tags → Tags → Tags → Tags
edited_by None add remove tags = with_removed (with_added tags add) remove
edited_by (Some set) add remove tags = fresh_tags [] set

-- the tags after an edit: the list that it sets, where the first of equal ones stays; or those that
-- were there and those that it adds, without those that it removes
abbrev pub edited : EditData → Tags → Tags
edited edit tags = edited_by edit.replace edit.add edit.remove tags

abbrev pub is_empty : {X : Type 0} → List X → Bool
is_empty [] = true
is_empty (x ∷ xs) = false

abbrev pub has_empty_tag : Tags → Bool
has_empty_tag tags = list_any is_empty tags

abbrev pub is_bad_by : Option Tags → Tags → Tags → Bool
is_bad_by None add remove = (is_empty add && is_empty remove) || has_empty_tag add || has_empty_tag remove
is_bad_by (Some set) add remove = not (is_empty add && is_empty remove) || has_empty_tag set

-- whether an edit asks nothing, sets beside adding or removing, or has an empty tag
abbrev pub is_bad_edit : EditData → Bool
is_bad_edit edit = is_bad_by edit.replace edit.add edit.remove

-- whether the tags are the same, in the same order
abbrev pub are_same : Tags → Tags → Bool
are_same before after = pointwise bytes_eq before after
