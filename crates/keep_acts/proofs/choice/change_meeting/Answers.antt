-- The filter's rule asks for just the needs.
use Rattle.std.proofs.Common.{inr}
use Rattle.keep_acts.proofs.choice.change_meeting.Goals as goal

pub returns-clause-changes : goal.returns-clause-changes
returns-clause-changes g c = inr (record {
  rule = c.new-filter.result.rule;
  chosen = record { given = c.in_ok-same.same; says = c.in_ok-same.ensures; is = c.new-filter.ensures.rule };
  changes = c.change_by.ensures.changes;
})
