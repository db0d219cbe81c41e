use Rattle.serde_json.specs.View.{view}
use Rattle.keep_docs.specs.Fields.{as_id}
use Rattle.keep_docs.proofs.Each.{ReadUpTo}
use Rattle.keep_docs.proofs.lists.ids.Given as goal

abbrev pub invariant-loop-item : goal.invariant-loop-item
invariant-loop-item l = ReadUpTo view as_id l.items l.item-index l.found.items
