use Rattle.std.proofs.lemmas.Result.{MatchResult-weaker}
use Rattle.keep_docs.proofs.Members.{members_view-clones}
use Rattle.keep_docs.proofs.made_values.members_copy.Goals as goal

pub returns : goal.returns
returns c =
    MatchResult-weaker c.clone.result c.clone.ensures.cases
    (λ copy h. members_view-clones c.args.members.now.entries copy.entries h) (λ _ _. tt)
