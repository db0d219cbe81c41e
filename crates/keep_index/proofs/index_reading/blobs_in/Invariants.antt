use Rattle.serde_json.specs.View.{view}
use Rattle.keep_docs.proofs.Each.{ReadUpTo}
use Rattle.keep_index.specs.Reading.{blob_in}
use Rattle.keep_index.proofs.index_reading.blobs_in.Given as goal

abbrev pub invariant-loop-value : goal.invariant-loop-value
invariant-loop-value l = ReadUpTo view blob_in l.values l.value-index l.blobs.items
