use Rattle.std.proofs.Common.{◌≡◌, drop}
use Rattle.json.specs.Print.{escape}
use Rattle.keep_docs.specs.Behind.{behind}
use Rattle.keep_docs.proofs.text_of.behind_escaped.Given as goal

abbrev pub invariant-loop-byte : goal.invariant-loop-byte
invariant-loop-byte l = behind (escape l.text) l.bytes ≡ behind (escape (drop l.byte-index l.text)) l.rest
