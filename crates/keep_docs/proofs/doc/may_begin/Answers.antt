use Rattle.std.proofs.Common.{sym, ◌∙◌}
use Rattle.keep_docs.proofs.Begun.{begins_none}
use Rattle.keep_docs.proofs.doc.may_begin.Goals as goal

pub returns-in-Some : goal.returns-in-Some
returns-in-Some c none = begins_none c.args.bytes.now c.in-Some.byte.now c.in-Some.ensures.value (sym c.begins_text.ensures ∙ none)
