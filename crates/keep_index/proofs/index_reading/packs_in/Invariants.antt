use Rattle.std.proofs.Common.{map}
use Rattle.serde_json.specs.View.{view}
use Rattle.keep_docs.proofs.Each.{ReadUpTo}
use Rattle.keep_index.specs.Index.{pack_view}
use Rattle.keep_index.specs.Reading.{pack_in}
use Rattle.keep_index.proofs.index_reading.packs_in.Given as goal

abbrev pub invariant-loop-value : goal.invariant-loop-value
invariant-loop-value l = ReadUpTo view pack_in l.values l.value-index (map pack_view l.packs.items)
