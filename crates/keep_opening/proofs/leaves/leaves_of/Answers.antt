-- The leaves of one key after another.
use Rattle.std.proofs.Common.{◌≡◌, ◌∙◌, List, refl, subst, arith}
use Rattle.std.specs.FinMap as finite
use Rattle.keep_shelf.specs.declared.key.Key.{Key}
use Rattle.keep_opening.specs.Leafing.{AreAlong}
use Rattle.keep_opening.proofs.Along.{along_end, along_next, are_leaves}
use Rattle.keep_opening.proofs.leaves.leaves_of.Goals as goal

pub loop-key-preserved : goal.loop-key-preserved
loop-key-preserved g c rest h =
    let more = c.in_ok-push_leaf.ensures in
    rw more.1 (along_next (finite.get c.args.stock.now) c.deref-key-items.result.now c.loop-key.key-index _ _ c.loop-key.leaves.items more.0 (omega arith) refl c.loop-key.invariant more.2 rest h)

pub returns : goal.returns
returns g c =
    let keys : List Key = c.deref-key-items.result.now in
    let all : keys ≡ finite.keys c.args.stock.now = c.deref-key-items.ensures.value ∙ c.in_ok-keys.ensures in
    are_leaves c.args.stock.now c.loop-key.leaves.items
    (subst (λ (ks : List Key). AreAlong (finite.get c.args.stock.now) ks c.loop-key.leaves.items) all
    (along_end (finite.get c.args.stock.now) keys c.loop-key.key-index c.loop-key.leaves.items c.loop-key-test.false c.loop-key.invariant))
