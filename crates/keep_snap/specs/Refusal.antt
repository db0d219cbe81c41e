-- The words and the numbers by which operators know why bytes are no snapshot.
use Rattle.std.specs.Prelude.{ℕ, List, codes, Option, Some}
use Rattle.keep_docs.specs.Refusal.{doc_number, doc_word}
use Rattle.keep_snap.specs.declared.snap.SnapError.{SnapError}
use Rattle.keep_snap.specs.declared.snap.SnapError.TheVariants.{Doc, BadSnapshot, BadTime}

-- the number: the document's own, where it is none
abbrev pub snap_number : SnapError → Option ℕ
snap_number (Doc refusal) = doc_number refusal
snap_number BadSnapshot = Some 10
snap_number BadTime = Some 11

-- the word that is printed
abbrev pub snap_word : SnapError → List ℕ
snap_word (Doc refusal) = doc_word refusal
snap_word BadSnapshot = codes "BadSnapshot"
snap_word BadTime = codes "BadTime"
