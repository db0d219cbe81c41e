use Rattle.serde_json.specs.View.{view}
use Rattle.keep_docs.proofs.Each.{ReadUpTo}
use Rattle.keep_entries.specs.Shape.{mark_in}
use Rattle.keep_entries.proofs.lists_at.marks_at.Given as goal

abbrev pub invariant-loop-value : goal.invariant-loop-value
invariant-loop-value l = ReadUpTo view (mark_in l.form) l.values l.value-index l.marks.items
