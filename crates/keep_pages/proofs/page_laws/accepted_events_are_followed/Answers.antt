use Rattle.keep_pages.proofs.Following.{follows}
use Rattle.keep_pages.proofs.Histories.{with_event-is}
use Rattle.keep_pages.proofs.page_laws.accepted_events_are_followed.Goals as goal

pub returns : goal.returns
returns c = record { tells = with_event-is; followed = follows }
