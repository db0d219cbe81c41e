-- The trash and the live files are put where nothing was.
use Rattle.std.proofs.Common.{◌≡◌, ◌∙◌, None, ap}
use Rattle.std.specs.FinMap as finite
use Rattle.keep_shelf.specs.Key.{key_cmp}
use Rattle.keep_shelf.specs.Shelved.{Content}
use Rattle.keep_shelf.specs.declared.key.Key.TheVariants.{Live, Trash}
use Rattle.keep_opening.specs.Filing.{lived_in}
use Rattle.keep_opening.proofs.Trashed.{lived_all, lived_trash}
use Rattle.keep_opening.proofs.trash.wanted.Goals as goal

pub put_trash-requires-clause-none : goal.put_trash-requires-clause-none
put_trash-requires-clause-none c n name = ap (λ (s : Content). finite.get s (Trash n name)) c.new-stock.ensures ∙ finite.get-empty key_cmp (Trash n name)

pub returns-clause-live : goal.returns-clause-live
returns-clause-live c name =
    let files = c.args.live.now.files in
    let stock = c.put_trash.new.stock in
    let none : finite.get stock (Live name) ≡ None =
    c.in_ok-put_trash.ensures.live name ∙ ap (λ (s : Content). finite.get s (Live name)) c.new-stock.ensures ∙ finite.get-empty key_cmp (Live name) in
    ap (λ (s : Content). finite.get s (Live name)) (c.in_ok-put_names.ensures ∙ ap (λ ns. lived_in files ns stock) (c.as_slice.ensures.value ∙ c.in_ok-names.ensures.files))
    ∙ lived_all files stock name none

pub returns-clause-trash : goal.returns-clause-trash
returns-clause-trash c n name =
    ap (λ (s : Content). finite.get s (Trash n name)) c.in_ok-put_names.ensures
    ∙ lived_trash c.args.live.now.files c.as_slice.result.now c.put_trash.new.stock n name ∙ c.in_ok-put_trash.ensures.trash n name
