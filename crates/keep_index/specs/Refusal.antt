-- The words and the numbers by which operators know why bytes are no index.
use Rattle.std.specs.Prelude.{ℕ, List, codes, Option, Some}
use Rattle.keep_docs.specs.Refusal.{doc_number, doc_word}
use Rattle.keep_index.specs.declared.index_error.IndexError.{IndexError}
use Rattle.keep_index.specs.declared.index_error.IndexError.TheVariants.{Doc, BadIndex}

-- the number: the document's own, where it is none
abbrev pub index_number : IndexError → Option ℕ
index_number (Doc refusal) = doc_number refusal
index_number BadIndex = Some 9

-- the word that is printed
abbrev pub index_word : IndexError → List ℕ
index_word (Doc refusal) = doc_word refusal
index_word BadIndex = codes "BadIndex"
