-- All keys were walked over.
use Rattle.std.proofs.Common.{◌≡◌, ◌∙◌, List, ap}
use Rattle.std.specs.FinMap as finite
use Rattle.keep_opening.proofs.Whole.{whole_taken}
use Rattle.keep_opening.specs.Intake.{taken_into}
use Rattle.keep_shelf.specs.Shelved.{stocked}
use Rattle.keep_shelf.specs.declared.key.Key.{Key}
use Rattle.keep_openings.proofs.copying.copied.Goals as goal

pub returns-clause-all : goal.returns-clause-all
returns-clause-all g c =
    let stock = c.in_ok-stock.stock in
    let keys : c.as_slice.result.now ≡ finite.keys stock = c.as_slice.ensures.value ∙ c.in_ok-keys.ensures in
    c.afresh.ensures ∙ ap stocked (c.in_ok-copy.ensures ∙ ap (λ (ks : List Key). taken_into stock ks finite.empty) keys
    ∙ whole_taken stock ∙ c.in_ok-stock.ensures.all)
