use denote.Exit.{no}
use denote.Param.Send.{arg_send, arg_sync, param_send, param_sync}
use Rattle.keep_pages.proofs.Crossing.{sheet_send, sheet_sync}
use Rattle.keep_pages.proofs.page_laws.sheets_cross_threads.Goals as goal

pub cross-requires-send-T : goal.cross-requires-send-T
cross-requires-send-T c κs = param_send 0 _ (arg_send _ no _ sheet_send)

pub cross-requires-sync-T : goal.cross-requires-sync-T
cross-requires-sync-T c κs = param_sync 0 _ (arg_sync _ no _ sheet_sync)
