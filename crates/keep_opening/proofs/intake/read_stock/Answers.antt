-- All keys were walked over.
use Rattle.std.proofs.Common.{◌≡◌, ◌∙◌, ap, length, subst}
use Rattle.std.specs.Prelude.{IfOk}
use Rattle.std.specs.FinMap as finite
use Rattle.keep_shelf.specs.Shelved.{Content, Shelved}
use Rattle.keep_opening.proofs.Short.{listed_short}
use Rattle.keep_opening.proofs.Whole.{whole_taken}
use Rattle.keep_opening.specs.Intake.{taken_into}
use Rattle.keep_opening.proofs.intake.read_stock.Goals as goal

pub returns-clause-all : goal.returns-clause-all
returns-clause-all g c =
    let content = (g.S.Shelf.shelved c.args.shelf.now).content in
    let same : (g.S.Shelf.shelved c.list.new.self).content ≡ content = ap (λ (s : Shelved). s.content) c.in_ok-keys.ensures.ok in
    let all : c.as_slice.result.now ≡ finite.keys content = c.as_slice.ensures.value ∙ c.in_ok-keys.ensures.listed in
    let whole = ap (λ (d : Content). taken_into d c.as_slice.result.now finite.empty) same
    ∙ ap (λ ks. taken_into content ks finite.empty) all ∙ whole_taken content in
    subst (λ (r : Content). IfOk c.fill.result (λ stock. stock ≡ r)) whole c.fill.ensures.all

pub returns-clause-short : goal.returns-clause-short
returns-clause-short g c =
    let before = g.S.Shelf.shelved c.args.shelf.now in
    listed_short (length (finite.keys before.content)) (length c.as_slice.result.now) before (g.S.Shelf.shelved c.list.new.self) (g.S.Shelf.shelved c.fill.new.shelf) c.fill.result
    (ap length (c.as_slice.ensures.value ∙ c.in_ok-keys.ensures.listed)) c.in_ok-keys.ensures.ok c.fill.ensures.short
