-- A page can be handed to another thread, and lent to several: its sheet can, and so can its token.
use denote.Param.Send.{IsSend, IsSync, sendable}
use Rattle.std.proofs.Crossing.{crosses}
use Rattle.logbook.proofs.tokens.Seen.TheSendSync as seen
use Rattle.keep_pages.proofs.Crossing.{sheet_send, sheet_sync}
use Rattle.keep_register.specs.contracts.page.Page as page

pub page_send : IsSend page.the_row
page_send = search (sheet_send, seen.the_send, crosses, sendable) depth 60 fits 20000

pub page_sync : IsSync page.the_row
page_sync = search (sheet_sync, seen.the_sync, crosses, sendable) depth 60 fits 20000
