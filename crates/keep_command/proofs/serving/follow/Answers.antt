use Rattle.std.proofs.Common.{inl, inr, refl, sym, true≢false}
use Rattle.keep_command.proofs.serving.follow.Goals as goal

pub returns-then-is_crew_due-clause-follows : goal.returns-then-is_crew_due-clause-follows
returns-then-is_crew_due-clause-follows g c = inr (c.if-is_crew_due.ensures.0 refl, c.have_crew.ensures.crews)

pub returns-else-is_crew_due-clause-follows : goal.returns-else-is_crew_due-clause-follows
returns-else-is_crew_due-clause-follows g c =
    inl ((λ due. true≢false (sym (c.if-is_crew_due.ensures.1 due))), c.leave.ensures, refl, refl)
