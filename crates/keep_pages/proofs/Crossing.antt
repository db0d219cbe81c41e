-- A sheet can be handed to another thread, and lent to several: its live repository can, and so can its history.
use denote.Param.Send.{IsSend, IsSync, sendable}
use Rattle.std.proofs.Crossing.{crosses}
use Rattle.keep_catalog.proofs.Crossing.{live_send, live_sync}
use Rattle.keep_journal.proofs.history.History.TheSendSync as history
use Rattle.keep_pages.specs.contracts.sheet.Sheet as sheet

pub sheet_send : IsSend sheet.the_row
sheet_send = search (live_send, history.the_send, crosses, sendable) depth 40 fits 20000

pub sheet_sync : IsSync sheet.the_row
sheet_sync = search (live_sync, history.the_sync, crosses, sendable) depth 40 fits 20000
