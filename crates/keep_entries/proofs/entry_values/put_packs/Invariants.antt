use Rattle.std.proofs.Common.{◌≡◌, ◌++◌, drop, map, take}
use Rattle.std.specs.List.{AllByRecursion}
use Rattle.serde_json.specs.View.{items_of}
use Rattle.serde_json.specs.Written.{items_text}
use Rattle.keep_docs.specs.Fields.{id_data}
use Rattle.keep_names.specs.Id.{IsDigest}
use Rattle.keep_entries.specs.Members.{list_text}
use Rattle.keep_entries.proofs.entry_values.put_packs.Given as goal

abbrev pub invariant-loop-pack : goal.invariant-loop-pack
invariant-loop-pack l = record {
  rest : l.out ++ items_text l.later (items_of (map id_data (drop l.pack-index l.packs))) ≡ l.fn.out ++ list_text (map id_data l.packs);
  fit : AllByRecursion IsDigest (take l.pack-index l.packs);
}
