use Rattle.std.proofs.Common.{rules}
use Rattle.keep_entries.proofs.SameMembers.{count_of-members_view}
use Rattle.keep_entries.proofs.read_parts.has_members.Goals as goal

pub returns-in-Some : goal.returns-in-Some
returns-in-Some c =
    let count = count_of-members_view c.in-Some.members.now.entries in
    search (rules, count)
