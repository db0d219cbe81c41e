-- Which words make no good edit.
use Rattle.std.proofs.Common.{◌≡◌, Bool, inl, inr, true, false, not, List, [], ◌∷◌, string_bytes, refl, ap, ◌∙◌}
use Rattle.std.proofs.lemmas.Bool.{cases_Bool}
use Rattle.std.specs.List.{filter_map, list_any}
use Rattle.std.specs.Prelude.{◌&&◌, ◌||◌, if◌then◌else◌}
use Rattle.keep_labels.specs.Edits.{has_empty_tag, is_bad_edit, is_empty}
use Rattle.keep_lines.specs.Edits.{is_set, moves, moves_empty, said_edit, tag_by}
use Rattle.keep_lines.specs.declared.tag_line.TagUse.TheVariants as deed
use Rattle.keep_lines.specs.declared.tag_line.TagWord.{TagWord}
use Rattle.keep_lines.specs.declared.tag_line.TagWord.TheVariants.{Add, Remove, Set}

and_false : (b : Bool) → (b && false) ≡ false
and_false true = refl
and_false false = refl

or_last : (a b c : Bool) → (a || (b || c)) ≡ (b || (a || c))
or_last true true c = refl
or_last true false c = refl
or_last false b c = refl

or_assoc : (a b c : Bool) → ((a || b) || c) ≡ (a || (b || c))
or_assoc true b c = refl
or_assoc false b c = refl

-- nothing is added and nothing removed where no word does so
moves_none : (words : List TagWord) → (is_empty (filter_map (tag_by deed.Add) words) && is_empty (filter_map (tag_by deed.Remove) words)) ≡ not (list_any moves words)
moves_none [] = refl
moves_none (Add tag ∷ words) = refl
moves_none (Remove tag ∷ words) = and_false (is_empty (filter_map (tag_by deed.Add) words))
moves_none (Set tag ∷ words) = moves_none words

-- the tags that are added and removed have an empty one where a word names it
moves_some_empty : (words : List TagWord) → (has_empty_tag (filter_map (tag_by deed.Add) words) || has_empty_tag (filter_map (tag_by deed.Remove) words)) ≡ list_any moves_empty words
moves_some_empty [] = refl
moves_some_empty (Add tag ∷ words) =
    or_assoc (is_empty (string_bytes tag)) (has_empty_tag (filter_map (tag_by deed.Add) words)) (has_empty_tag (filter_map (tag_by deed.Remove) words))
    ∙ ap (λ b. is_empty (string_bytes tag) || b) (moves_some_empty words)
moves_some_empty (Remove tag ∷ words) =
    or_last (has_empty_tag (filter_map (tag_by deed.Add) words)) (is_empty (string_bytes tag)) (has_empty_tag (filter_map (tag_by deed.Remove) words))
    ∙ ap (λ b. is_empty (string_bytes tag) || b) (moves_some_empty words)
moves_some_empty (Set tag ∷ words) = moves_some_empty words

-- no empty tag is set
sets_none_empty : (words : List TagWord) → has_empty_tag (filter_map (tag_by deed.Set) words) ≡ false
sets_none_empty [] = refl
sets_none_empty (Add tag ∷ words) = sets_none_empty words
sets_none_empty (Remove tag ∷ words) = sets_none_empty words
sets_none_empty (Set tag ∷ words) = elim (cases_Bool (is_empty (string_bytes tag))) [
  | inl empty ↦ rw empty (sets_none_empty words)
  | inr other ↦ rw other (rw other (sets_none_empty words))
]

or_false : (b : Bool) → (b || false) ≡ b
or_false true = refl
or_false false = refl

not_not : (b : Bool) → not (not b) ≡ b
not_not true = refl
not_not false = refl

pub bad_words : (words : List TagWord) → is_bad_edit (said_edit words) ≡ (if list_any is_set words then list_any moves words else (not (list_any moves words) || list_any moves_empty words))
bad_words words = elim (cases_Bool (list_any is_set words)) [
  | inl sets ↦ rw (sets, moves_none words, sets_none_empty words, not_not (list_any moves words), or_false (list_any moves words)) refl
  | inr other ↦
      rw (other, or_assoc (is_empty (filter_map (tag_by deed.Add) words) && is_empty (filter_map (tag_by deed.Remove) words)) (has_empty_tag (filter_map (tag_by deed.Add) words)) (has_empty_tag (filter_map (tag_by deed.Remove) words)), moves_none words, moves_some_empty words) refl
]
