use Rattle.std.proofs.Common.{◌≡◌, map, take}
use Rattle.std.specs.List.{AllByRecursion}
use Rattle.serde_json.specs.View.{view}
use Rattle.keep_names.specs.Id.{IsDigest}
use Rattle.keep_docs.specs.Fields.{id_data}
use Rattle.keep_docs.proofs.made_values.ids_value.Given as goal

abbrev pub invariant-loop-id : goal.invariant-loop-id
invariant-loop-id l = record {
  values : map view l.items.items ≡ map id_data (take l.id-index l.ids);
  digests : AllByRecursion IsDigest (take l.id-index l.ids);
}
