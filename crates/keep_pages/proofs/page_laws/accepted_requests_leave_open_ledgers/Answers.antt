use Rattle.keep_pages.proofs.Accepting.{accepts}
use Rattle.keep_pages.proofs.Following.{open_with}
use Rattle.keep_pages.proofs.page_laws.accepted_requests_leave_open_ledgers.Goals as goal

pub returns : goal.returns
returns c b rules request told is replies = open_with b is request (accepts rules b request told replies)
