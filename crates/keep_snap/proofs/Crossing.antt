-- A snapshot can be handed to another thread, and lent to several.
use denote.Param.Send.{IsSend, IsSync, sendable}
use Rattle.serde_json.proofs.value.Value.TheLaws.TheKnot as value
use Rattle.std.proofs.Crossing.{crosses}
use Rattle.std.proofs.MapsCrossing as maps
use Rattle.keep_snap.specs.contracts.snap.Snap as snap

pub snap_send : IsSend snap.the_row
snap_send = search (maps.crosses, crosses, value.crosses, sendable) depth 60 fits 20000

pub snap_sync : IsSync snap.the_row
snap_sync = search (maps.crosses, crosses, value.crosses, sendable) depth 60 fits 20000
