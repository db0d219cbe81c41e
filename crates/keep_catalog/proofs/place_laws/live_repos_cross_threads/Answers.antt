use denote.Exit.{no}
use denote.Param.Send.{arg_send, arg_sync, param_send, param_sync}
use Rattle.keep_catalog.proofs.Crossing.{live_send, live_sync}
use Rattle.keep_catalog.proofs.place_laws.live_repos_cross_threads.Goals as goal

pub cross-requires-send-T : goal.cross-requires-send-T
cross-requires-send-T c κs = param_send 0 _ (arg_send _ no _ live_send)

pub cross-requires-sync-T : goal.cross-requires-sync-T
cross-requires-sync-T c κs = param_sync 0 _ (arg_sync _ no _ live_sync)
