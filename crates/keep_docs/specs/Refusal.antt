-- The words and the numbers by which operators know why bytes are no document.
use Rattle.std.specs.Prelude.{ℕ, List, codes, Option, Some, None}
use Rattle.keep_docs.specs.declared.doc.DocError.{DocError}
use Rattle.keep_docs.specs.declared.doc.DocError.TheVariants.{NotJson, BadNumber, Memory}

-- the number; want of memory has none
abbrev pub doc_number : DocError → Option ℕ
doc_number NotJson = Some 2
doc_number BadNumber = Some 3
doc_number Memory = None

-- the word that is printed
abbrev pub doc_word : DocError → List ℕ
doc_word NotJson = codes "NotJson"
doc_word BadNumber = codes "BadNumber"
doc_word Memory = codes "Memory"
