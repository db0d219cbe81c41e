use Rattle.serde_json.specs.View.{view}
use Rattle.keep_docs.proofs.Each.{ReadUpTo}
use Rattle.keep_entries.specs.Shape.{as_name}
use Rattle.keep_entries.proofs.lists_at.names_at.Given as goal

abbrev pub invariant-loop-value : goal.invariant-loop-value
invariant-loop-value l = ReadUpTo view as_name l.values l.value-index l.names.items
