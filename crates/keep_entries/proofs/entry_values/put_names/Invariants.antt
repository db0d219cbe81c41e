use Rattle.std.proofs.Common.{◌≡◌, ◌++◌, drop, map, take}
use Rattle.std.specs.List.{AllByRecursion}
use Rattle.serde_json.specs.View.{items_of}
use Rattle.serde_json.specs.Written.{items_text}
use Rattle.keep_entries.specs.Entry.{FitsName}
use Rattle.keep_entries.specs.Spelling.{name_data}
use Rattle.keep_entries.specs.Members.{list_text}
use Rattle.keep_entries.proofs.entry_values.put_names.Given as goal

abbrev pub invariant-loop-name : goal.invariant-loop-name
invariant-loop-name l = record {
  rest : l.out ++ items_text l.later (items_of (map name_data (drop l.name-index l.names))) ≡ l.fn.out ++ list_text (map name_data l.names);
  fit : AllByRecursion FitsName (take l.name-index l.names);
}
