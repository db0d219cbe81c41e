use Rattle.std.proofs.Common.{◌<◌, ◌∙◌, arith, length, subst, sym}
use Rattle.std.proofs.Math.Seq.{map-set_same}
use Rattle.std.proofs.lemmas.List.{length-map}
use Rattle.keep_hooks.specs.Guards.{HasRoom, tally_after}
use Rattle.keep_hooks.specs.Rules.{armed_of, tallies_of, tally_of}
use Rattle.keep_book.proofs.Walking.{next_is, walked_more}
use Rattle.keep_book.proofs.hooks.tell_all.Goals as goal

pub tell-requires-clause-small : goal.tell-requires-clause-small
tell-requires-clause-small g c =
    let among : c.loop-watch.watch-index < length (tallies_of c.args.watches.now) = omega (arith, length-map c.args.watches.now tally_of) in
    let as_before = next_is tally_of (tally_after c.args.outline.now) (tallies_of c.args.watches.now) c.loop-watch.watches c.loop-watch.watch-index c.watch-item.result
    among (omega arith) c.loop-watch.invariant.1 in
    subst HasRoom (sym as_before) (c.requires.small c.loop-watch.watch-index _ among)

pub loop-watch-preserved : goal.loop-watch-preserved
loop-watch-preserved g c =
    let among : c.loop-watch.watch-index < length (tallies_of c.args.watches.now) = omega (arith, length-map c.args.watches.now tally_of) in (
      map-set_same armed_of c.loop-watch.watches c.loop-watch.watch-index c.tell.new.self c.watch-item.result c.tell.ensures.armed ∙ c.loop-watch.invariant.0,
      walked_more tally_of (tally_after c.args.outline.now) (tallies_of c.args.watches.now) c.loop-watch.watches c.loop-watch.watch-index c.watch-item.result
          among (omega arith) c.loop-watch.invariant.1 c.tell.new.self c.tell.ensures.told,
    )
