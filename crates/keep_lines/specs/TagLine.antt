-- What a line says that gives snapshots other tags.
use Rattle.std.specs.Prelude.{ℕ, List, ◌++◌, codes, string_bytes}
use Rattle.std.specs.Str.Iter.{LacksByte}
use Rattle.keep_lines.specs.declared.tag_line.TagLine.{TagLine}
use Rattle.keep_lines.specs.declared.tag_line.TagWord.{TagWord}
use Rattle.keep_lines.specs.declared.tag_line.TagWord.TheVariants.{Add, Remove, Set}
use Rattle.keep_lines.specs.WordList.{IsForFilter, filter_text}

-- a tag behind the sign of what is done with it
abbrev pub tag_word_text : TagWord → List ℕ
tag_word_text (Add tag) = codes "+" ++ string_bytes tag
tag_word_text (Remove tag) = codes "-" ++ string_bytes tag
tag_word_text (Set tag) = codes "=" ++ string_bytes tag

-- one whose word has no space
abbrev pub IsTagWord : TagWord → Type 0
IsTagWord word = LacksByte 32 (tag_word_text word)

-- `FILTER WORD ..`
abbrev pub tag_text : TagLine → List ℕ
tag_text tag = filter_text tag_word_text (tag.filter, tag.words)

abbrev pub IsTag : TagLine → Type 0
IsTag tag = IsForFilter IsTagWord (tag.filter, tag.words)
