use Rattle.std.proofs.Common.{ap, ◌∙◌}
use Rattle.std.specs.FinMap as map
use Rattle.keep_shelf.proofs.Hashed.{content_of}
use Rattle.keep_shelf.specs.Key.{key_cmp}
use Rattle.keep_shelf.specs.declared.key.Key.TheVariants.{Entry}
use Rattle.keep_shelf.proofs.stock.Stock.new.Goals as goal

pub invariant_of-result : goal.invariant_of-result
invariant_of-result c n = ap (λ es. map.get (content_of es) (Entry n)) c.new.ensures.empty ∙ map.get-empty key_cmp (Entry n)
