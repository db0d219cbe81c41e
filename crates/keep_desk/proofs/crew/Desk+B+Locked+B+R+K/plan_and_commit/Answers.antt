use Rattle.std.proofs.Common.{Ok}
use Rattle.keep_desk.proofs.crew.Desk+B+Locked+B+R+K.plan_and_commit.Goals as goal

pub commit-requires-after_bounds : goal.commit-requires-after_bounds
commit-requires-after_bounds g c κs within = c.requires c.plan.new.pass.seen c.in-Ok.planned c.in-Ok.ensures.planned

pub returns-in-Ok : goal.returns-in-Ok
returns-in-Ok g c = record {
  shown = c.plan.new.pass;
  begins = c.in-Ok.ensures.begins;
  counted = c.in-Ok.ensures.counted;
  planned = Ok c.in-Ok.planned;
  is_planned = c.in-Ok.ensures.planned;
  commits = record {
    given = c.commit.result;
    answer_is = c.answer_of.ensures;
    answered = c.commit.ensures.answered;
    counted = c.commit.ensures.counted;
  };
}
