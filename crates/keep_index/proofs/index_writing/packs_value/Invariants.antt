use Rattle.std.proofs.Common.{◌≡◌, map, take}
use Rattle.serde_json.specs.View.{view}
use Rattle.keep_index.specs.Index.{Fits, pack_view}
use Rattle.keep_index.specs.Writing.{pack_data}
use Rattle.keep_index.proofs.index_writing.packs_value.Given as goal

abbrev pub invariant-loop-pack : goal.invariant-loop-pack
invariant-loop-pack l = record {
  values : map view l.values.items ≡ map pack_data (map pack_view (take l.pack-index l.packs));
  fit : Fits (map pack_view (take l.pack-index l.packs));
}
