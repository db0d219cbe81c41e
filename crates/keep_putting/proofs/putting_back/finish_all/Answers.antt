use Rattle.std.proofs.Common.{◌∙◌, subst}
use Rattle.keep_targets.specs.declared.attributes.Owner.{Owner}
use Rattle.keep_putting.proofs.Care.{both}
use Rattle.keep_putting.proofs.Finishing.{one_more}
use Rattle.keep_putting.specs.Putting.{IsFinished, stage_of}
use Rattle.keep_putting.proofs.putting_back.finish_all.Goals as goal

pub returns-in_err-finish-clause-careful : goal.returns-in_err-finish-clause-careful
returns-in_err-finish-clause-careful g c = both _ _ _ c.loop-last.invariant.careful (c.finish.ensures.careful c.loop-last.invariant.made)

pub loop-last-preserved : goal.loop-last-preserved
loop-last-preserved g c =
    let old = stage_of (g.T.Target.calls c.args.target.now) c.args.course.now in
    let between = stage_of (g.T.Target.calls c.loop-last.target) c.loop-last.course in
    let new = stage_of (g.T.Target.calls c.finish.new.target) c.finish.new.course in
    let last = c.in-Some.last.now in
    let next = subst (λ (caller : Owner). IsFinished caller last last.what between new) c.loop-last.invariant.caller c.in_ok-finish.ensures.done in
    record {
      careful = both _ _ _ c.loop-last.invariant.careful (c.finish.ensures.careful c.loop-last.invariant.made);
      made = c.finish.ensures.made c.loop-last.invariant.made;
      caller = c.finish.ensures.caller ∙ c.loop-last.invariant.caller;
      done = one_more c.args.course.now.caller c.args.wanted.now c.loop-last.rest.now c.in-Some.front.now last old between new
          c.loop-last.invariant.done c.in-Some.ensures.cases.0 next;
    }
