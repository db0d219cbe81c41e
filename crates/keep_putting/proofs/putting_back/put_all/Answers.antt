use Rattle.std.proofs.Common.{◌≡◌, ◌∙◌, ◌++◌, ◌∷◌, [], ◌<◌, ◌+◌, List, length, take, ap, sym, subst}
use Rattle.std.proofs.lemmas.List.{take_more}
use Rattle.keep_targets.specs.declared.attributes.Owner.{Owner}
use Rattle.keep_putting.proofs.Care.{both}
use Rattle.keep_putting.proofs.Chain.{done_more}
use Rattle.keep_putting.specs.Putting.{AreDone, IsOneDone, stage_of}
use Rattle.keep_putting.specs.declared.wanted.Wanted.{Wanted}
use Rattle.keep_putting.proofs.putting_back.put_all.Goals as goal

pub returns-in_err-put-clause-careful : goal.returns-in_err-put-clause-careful
returns-in_err-put-clause-careful g c = both _ _ _ c.loop-one.invariant.careful (c.put.ensures.careful c.loop-one.invariant.made)

pub loop-one-preserved : goal.loop-one-preserved
loop-one-preserved g c =
    let pieces = g.P.Pieces.pieces c.args.pieces.now in
    let caller = c.args.course.now.caller in
    let old = stage_of (g.T.Target.calls c.args.target.now) c.args.course.now in
    let between = stage_of (g.T.Target.calls c.loop-one.target) c.loop-one.course in
    let new = stage_of (g.T.Target.calls c.put.new.target) c.put.new.course in
    let all = c.args.wanted.now in
    let k = c.loop-one.one-index in
    let one = c.one-item.result in
    let inside : k < length all = c.loop-one-test.true in
    let next = subst (λ (by : Owner). IsOneDone pieces by one between new) c.loop-one.invariant.caller c.in_ok-put.ensures.done in
    let more : take (k + 1) all ≡ take k all ++ one ∷ [] = take_more all k one inside ∙ ap (λ (x : Wanted). take k all ++ x ∷ []) (sym c.one-item.is) in
    record {
      careful = both _ _ _ c.loop-one.invariant.careful (c.put.ensures.careful c.loop-one.invariant.made);
      made = c.put.ensures.made c.loop-one.invariant.made;
      caller = c.put.ensures.caller ∙ c.loop-one.invariant.caller;
      done = subst (λ (these : List Wanted). AreDone pieces caller these old new) (sym more)
          (done_more pieces caller (take k all) one old between new c.loop-one.invariant.done next);
    }
