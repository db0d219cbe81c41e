-- All keys were walked over.
use Rattle.std.proofs.Common.{◌≡◌, ◌∙◌, List, map, ap, subst}
use Rattle.std.specs.Prelude.{IfOk, filter}
use Rattle.std.specs.BTreeSet as tree
use Rattle.std.specs.FinMap as finite
use Rattle.std.specs.Ordering.{nat_cmp}
use Rattle.keep_opening.proofs.Resting.{same_over}
use Rattle.keep_opening.specs.Remaining.{is_over}
use Rattle.keep_moves.specs.declared.moves.Move.TheVariants.{Erase}
use Rattle.keep_shelf.specs.declared.key.Key.{Key}
use Rattle.keep_opening.proofs.over.over_moves.Goals as goal

pub returns : goal.returns
returns c =
    let j = c.args.history.now.journal in
    let keys : List Key = c.as_slice.result.now in
    let all : keys ≡ finite.keys c.args.stock.now = c.as_slice.ensures.value ∙ c.in_ok-keys.ensures in
    let over = same_over c.args.n j (tree.contains nat_cmp c.in_ok-told.told) keys c.in_ok-told.ensures ∙ ap (filter (is_over c.args.n j)) all in
    subst (λ (ks : List Key). IfOk c.erase_over.result (λ moves. moves.items ≡ map Erase ks)) over c.erase_over.ensures
