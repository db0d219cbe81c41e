use Rattle.std.specs.List.{AllByRecursion}
use Rattle.keep_lines.proofs.WordLists.{ReadUpTo}
use Rattle.keep_lines.proofs.word_list.parse_words.Given as goal

abbrev pub invariant-loop-word : goal.invariant-loop-word
invariant-loop-word g l = record {
  are_all : AllByRecursion g.W.Word.IsSaid l.values.items;
  read : ReadUpTo g.W.Word.text l.words l.word-index l.values.items;
}
