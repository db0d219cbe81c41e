use Rattle.std.proofs.Common.{◌≡◌, true, take}
use Rattle.json.specs.Print.{escape}
use Rattle.keep_docs.proofs.text_of.is_plain.Given as goal

abbrev pub invariant-loop-byte : goal.invariant-loop-byte
invariant-loop-byte l = l.plain ≡ true → escape (take l.byte-index l.text) ≡ take l.byte-index l.text
