-- What contracts see of a rescue under way.
use Rattle.std.specs.Prelude.{List, map, option_map, string_bytes}
use Rattle.keep_targets.specs.Call.{Call}
use Rattle.keep_rescue.specs.Salvage.{SalvageData, lost_view}
use Rattle.keep_rescue.specs.declared.salvage.Salvage as the_salvage

-- all but its allocator and why the target refused, where the target's calls are these
abbrev pub seen_by : {T : Type 0} → (T → List Call) → the_salvage.Salvage T → SalvageData
seen_by calls salvage = record {
  folders = map string_bytes salvage.folders.items;
  bytes = salvage.bytes.items;
  config = option_map (λ bytes. bytes.items) salvage.config;
  calls = calls salvage.target;
  saved = salvage.saved.items;
  lost = map lost_view salvage.lost.items;
}
