use Rattle.std.proofs.Common.{◌≡◌, map, take}
use Rattle.std.specs.List.{AllByRecursion}
use Rattle.serde_json.specs.View.{view}
use Rattle.keep_index.specs.Index.{FitsBlob}
use Rattle.keep_index.specs.Writing.{blob_data}
use Rattle.keep_index.proofs.index_writing.blobs_value.Given as goal

abbrev pub invariant-loop-blob : goal.invariant-loop-blob
invariant-loop-blob l = record {
  values : map view l.values.items ≡ map blob_data (take l.blob-index l.blobs);
  fit : AllByRecursion FitsBlob (take l.blob-index l.blobs);
}
