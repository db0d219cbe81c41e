use Rattle.serde_json.specs.View.{view}
use Rattle.keep_docs.proofs.Each.{ReadUpTo}
use Rattle.keep_entries.specs.Shape.{file_in}
use Rattle.keep_entries.proofs.lists_at.files_at.Given as goal

abbrev pub invariant-loop-value : goal.invariant-loop-value
invariant-loop-value l = ReadUpTo view file_in l.values l.value-index l.files.items
