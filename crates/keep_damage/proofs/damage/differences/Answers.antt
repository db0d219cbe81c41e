use Rattle.std.proofs.Common.{◌∙◌, [], ap, arith}
use Rattle.std.specs.FinMap as finite
use Rattle.keep_shelf.specs.Shelved.{Content}
use Rattle.keep_reading.specs.Settled.{settled}
use Rattle.keep_damage.specs.Compared.{difference_at, keys_of_both}
use Rattle.keep_damage.specs.Damage.{AreDifferences}
use Rattle.keep_damage.proofs.Damages.{if_ok}
use Rattle.keep_damage.proofs.Noted.{noted_take}
use Rattle.keep_damage.proofs.damage.differences.Goals as goal

pub returns : goal.returns
returns c =
    let j = c.args.history.now.journal in
    if_ok c.compare.result _ (λ found. AreDifferences (finite.get c.args.stock.now) j found.items) c.compare.ensures (λ found is. record {
      there = c.settle.new.stock;
      made = c.in_ok-settle.ensures ∙ ap (λ (s : Content). settled j (finite.get s)) c.in_ok-there.ensures;
      asked = c.in_ok-asked.asked;
      is_asked = c.in_ok-asked.ensures;
      list = is ∙ noted_take (difference_at j c.settle.new.stock c.in_ok-asked.asked) (keys_of_both c.settle.new.stock c.in_ok-asked.asked) [] (omega arith);
    })
