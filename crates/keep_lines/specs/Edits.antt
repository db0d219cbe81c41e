-- The edit of tags that words make.
use Rattle.std.specs.Prelude.{ℕ, Bool, true, false, List, [], Option, Some, None, if◌then◌else◌, string_bytes}
use Rattle.std.specs.List.{filter_map, list_any}
use Rattle.keep_lines.specs.declared.tag_line.TagUse.{TagUse}
use Rattle.keep_lines.specs.declared.tag_line.TagUse.TheVariants as deed
use Rattle.keep_lines.specs.declared.tag_line.TagWord.{TagWord}
use Rattle.keep_lines.specs.declared.tag_line.TagWord.TheVariants.{Add, Remove, Set}
use Rattle.keep_labels.specs.Edits.{EditData, is_bad_edit, is_empty}

-- the tag of a word that does this with it: the empty text is none to set
abbrev pub tag_by : TagUse → TagWord → Option (List ℕ)
tag_by deed.Add (Add tag) = Some (string_bytes tag)
tag_by deed.Remove (Remove tag) = Some (string_bytes tag)
tag_by deed.Set (Set tag) = if is_empty (string_bytes tag) then None else Some (string_bytes tag)
tag_by _ _ = None

-- whether a word sets
abbrev pub is_set : TagWord → Bool
is_set (Add tag) = false
is_set (Remove tag) = false
is_set (Set tag) = true

-- what the words add and remove, each in its order, and where a word sets, the list that they set
abbrev pub said_edit : List TagWord → EditData
said_edit words = record {
  replace = if list_any is_set words then Some (filter_map (tag_by deed.Set) words) else None;
  add = filter_map (tag_by deed.Add) words;
  remove = filter_map (tag_by deed.Remove) words;
}

-- the edit that asks for nothing
abbrev pub no_edit : EditData
no_edit = record { replace = None; add = []; remove = [] }

-- what the words say; where that is no good edit, one that asks for nothing, which is as bad
abbrev pub edit_data : List TagWord → EditData
edit_data words = if is_bad_edit (said_edit words) then no_edit else said_edit words

-- whether a word adds or removes
abbrev pub moves : TagWord → Bool
moves (Add tag) = true
moves (Remove tag) = true
moves (Set tag) = false

-- whether it does so with the empty text
abbrev pub moves_empty : TagWord → Bool
moves_empty (Add tag) = is_empty (string_bytes tag)
moves_empty (Remove tag) = is_empty (string_bytes tag)
moves_empty (Set tag) = false
