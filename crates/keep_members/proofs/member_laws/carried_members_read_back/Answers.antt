use Rattle.keep_members.proofs.ReadBack.{carried_back}
use Rattle.keep_members.proofs.member_laws.carried_members_read_back.Goals as goal

pub returns : goal.returns
returns c = carried_back
