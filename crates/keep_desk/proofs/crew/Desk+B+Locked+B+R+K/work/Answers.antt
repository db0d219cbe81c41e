use Rattle.keep_desk.proofs.crew.Desk+B+Locked+B+R+K.work.Goals as goal

pub plan_and_commit-requires-after_bounds : goal.plan_and_commit-requires-after_bounds
plan_and_commit-requires-after_bounds g c κs within = rw c.in-Plan.is at c.requires

pub returns-in-Plan : goal.returns-in-Plan
returns-in-Plan g c = rw (c.in-Plan.is) c.plan_and_commit.ensures

pub returns-in-Undo : goal.returns-in-Undo
returns-in-Undo g c = rw (c.in-Undo.is) (record {
  given = c.undo.result;
  answer_is = c.answer_of.ensures;
  answered = c.undo.ensures.answered;
  counted = c.undo.ensures.counted;
})

pub returns-in-Redo : goal.returns-in-Redo
returns-in-Redo g c = rw (c.in-Redo.is) (record {
  given = c.redo.result;
  answer_is = c.answer_of-in-Redo.ensures;
  answered = c.redo.ensures.answered;
  counted = c.redo.ensures.counted;
})

pub returns-in-Empty : goal.returns-in-Empty
returns-in-Empty g c = rw (c.in-Empty.is) (record {
  given = c.empty.result;
  answer_is = c.answer_of-in-Empty.ensures;
  answered = c.empty.ensures.answered;
  counted = c.empty.ensures.counted;
})
