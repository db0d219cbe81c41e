use Rattle.std.proofs.Common.{◌≡◌, map, take}
use Rattle.keep_events.specs.Events.{event_of, event_view}
use Rattle.keep_events.proofs.event_rows.rows_of.Given as goal

abbrev pub invariant-loop-notice : goal.invariant-loop-notice
invariant-loop-notice l =
    map event_view l.rows.items ≡ map (event_of l.history.journal) (take l.notice-index l.notices)
