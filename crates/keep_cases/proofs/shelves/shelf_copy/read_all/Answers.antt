-- All keys were walked over.
use Rattle.std.proofs.Common.{◌≡◌, ◌∙◌, ap, subst}
use Rattle.std.specs.Prelude.{IfOk}
use Rattle.std.specs.FinMap as map
use Rattle.keep_cases.proofs.AllFound.{all_found}
use Rattle.keep_cases.specs.Found.{found_under}
use Rattle.keep_shelf.specs.Shelved.{Content, Shelved}
use Rattle.keep_cases.proofs.shelves.shelf_copy.read_all.Goals as goal

pub returns-clause-copy : goal.returns-clause-copy
returns-clause-copy g c =
    let content = (g.S.Shelf.shelved c.args.shelf.now).content in
    let same : (g.S.Shelf.shelved c.list.new.self).content ≡ content = ap (λ (s : Shelved). s.content) c.in_ok-keys.ensures.ok in
    let all : c.as_slice.result.now ≡ map.keys content = c.as_slice.ensures.value ∙ c.in_ok-keys.ensures.listed in
    let whole = ap (λ (d : Content). found_under d c.as_slice.result.now map.empty) same ∙ ap (λ keys. found_under content keys map.empty) all ∙ all_found content in
    subst (λ (d : Content). IfOk c.read_keys.result (λ copy. copy.content ≡ d)) whole c.read_keys.ensures.copy
