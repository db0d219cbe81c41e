use Rattle.keep_members.proofs.Modes.{there_and_back}
use Rattle.keep_members.proofs.member_laws.modes_go_there_and_back.Goals as goal

pub returns : goal.returns
returns c = there_and_back
