-- A live repository can be handed to another thread, and lent to several: what its files say can, and so can its files.
use denote.Param.Send.{IsSend, IsSync, sendable}
use Rattle.std.proofs.Crossing.{crosses}
use Rattle.std.proofs.MapsCrossing as maps
use Rattle.std.proofs.MapsCrossingOver as over
use Rattle.indexmap.proofs.map.IndexMap.TheSendSync as index_map
use Rattle.keep_repo.proofs.repo.Repo.TheSendSync as repo
use Rattle.keep_snap.proofs.Crossing.{snap_send, snap_sync}
use Rattle.keep_catalog.specs.contracts.tables.Tables as tables
use Rattle.keep_catalog.specs.contracts.live_repo.LiveRepo as live_repo

tables_send : IsSend tables.the_row
tables_send = search (snap_send, index_map.the_send, maps.crosses, over.crosses, crosses, sendable) depth 60 fits 20000

tables_sync : IsSync tables.the_row
tables_sync = search (snap_sync, index_map.the_sync, maps.crosses, over.crosses, crosses, sendable) depth 60 fits 20000

pub live_send : IsSend live_repo.the_row
live_send = search (tables_send, repo.the_send, maps.crosses, crosses, sendable) depth 60 fits 20000

pub live_sync : IsSync live_repo.the_row
live_sync = search (tables_sync, repo.the_sync, maps.crosses, crosses, sendable) depth 60 fits 20000
