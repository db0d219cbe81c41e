use Rattle.std.proofs.Common.{arith}
use Rattle.keep_moves.proofs.Played.{one_more_call, still_can}
use Rattle.keep_moves.proofs.making.settle.Goals as goal

pub loop-made-preserved : goal.loop-made-preserved
loop-made-preserved g c =
    let i = c.loop-made.made in
    let ms = c.args.moves.now in
    let m = c.index-moves-made.result in
    let before = g.S.Shelf.shelved c.loop-made.shelf in
    let after = g.S.Shelf.shelved c.make.new.shelf in
    let kept = c.loop-made.invariant in
    record {
      within = omega arith;
      onward = omega arith;
      can = still_can ms c.args.made.now i m before after c.loop-made-test.true c.index-moves-made.is c.in_ok-make.ensures.ok kept.can;
      calls = one_more_call ms c.args.made.now i m before after c.loop-made-test.true c.index-moves-made.is c.in_ok-make.ensures.ok (g.S.Shelf.shelved c.args.shelf.now) kept.onward kept.calls;
    }
