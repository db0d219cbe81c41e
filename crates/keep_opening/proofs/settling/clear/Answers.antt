-- All keys were walked over.
use Rattle.std.proofs.Common.{◌≡◌, ◌∙◌, List, sym, ap}
use Rattle.std.specs.FinMap as finite
use Rattle.keep_shelf.specs.declared.key.Key.{Key}
use Rattle.keep_opening.specs.Settling.{swept_in}
use Rattle.keep_opening.proofs.Along.{drop_end}
use Rattle.keep_opening.proofs.Lasting.{all_swept}
use Rattle.keep_opening.proofs.settling.clear.Goals as goal

pub returns : goal.returns
returns c =
    let keys : List Key = c.deref-key-items.result.now in
    let all : keys ≡ finite.keys c.args.stock.now = c.deref-key-items.ensures.value ∙ c.in_ok-keys.ensures in
    let none = drop_end c.loop-key.key-index keys c.loop-key-test.false in
    ap finite.get (ap (λ ks. swept_in c.args.n ks c.loop-key.stock) (sym none) ∙ c.loop-key.invariant ∙ ap (λ ks. swept_in c.args.n ks c.args.stock.now) all)
    ∙ all_swept c.args.n c.args.stock.now
