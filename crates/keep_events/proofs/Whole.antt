-- No number of a row's value is a float.
use Rattle.std.proofs.Common.{◌≡◌, false, option_map, refl}
use Rattle.serde_json.specs.Written.{has_float}
use Rattle.keep_rows.proofs.Whole.{maybe_number-whole, maybe_text-whole}
use Rattle.keep_rows.specs.Values.{utc_of}
use Rattle.keep_events.specs.Events.{EventData, added_in, cleared_in, dropped_in, event_data, set_in}
use Rattle.keep_events.specs.Parts.{part_data}
use Rattle.keep_events.specs.declared.part.PartRow.{PartRow}

pub event-whole : (e : EventData) → has_float (event_data e) ≡ false
event-whole e =
    rw (maybe_number-whole (added_in e.wrote), maybe_number-whole (cleared_in e.wrote), maybe_number-whole (dropped_in e.wrote), maybe_number-whole (set_in e.wrote), maybe_text-whole (option_map utc_of e.when))
    refl

pub part-whole : (row : PartRow) → has_float (part_data row) ≡ false
part-whole row = rw (maybe_text-whole (option_map utc_of row.at), maybe_number-whole row.size) refl
