-- What was read is kept, and where nothing is found the shelf was only read.
use Rattle.std.proofs.Common.{◌∙◌, Err, IfErr, ap, subst, sym}
use Rattle.std.specs.FinMap as finite
use Rattle.std.proofs.lemmas.Result.{err_from_is_err_and}
use Rattle.keep_repo.specs.Repository.{Repository}
use Rattle.keep_shelf.specs.Shelved.{Content}
use Rattle.keep_opening.specs.Remaining.{due_in}
use Rattle.keep_reading.specs.Reads.{Reads}
use Rattle.keep_ledger.specs.OnShelf.{IsKept}
use Rattle.keep_ledger.specs.Opened.{IsGivenBack}
use Rattle.keep_ledger.proofs.Reading.{begins_final, kept_of, read_of}
use Rattle.keep_ledger.proofs.Unopened.{memory_given, read_given, short_given}
use Rattle.keep_ledger.proofs.ledger_opening.find.Goals as goal

pub notes_of-requires-clause-told : goal.notes_of-requires-clause-told
notes_of-requires-clause-told g c =
    let content = (g.S.Shelf.shelved c.args.shelf.now).content in
    let opened = c.in_ok-opened.opened in
    let reads = subst (λ (d : Content). Reads (finite.get d) opened.opening opened.history.journal) c.in_ok-stock.ensures.all c.in_ok-opened.ensures.read in
    begins_final content opened.opening opened.history.journal opened.live reads c.in_ok-opened.ensures.open

pub returns-clause-kept : goal.returns-clause-kept
returns-clause-kept g c =
    let content = (g.S.Shelf.shelved c.args.shelf.now).content in
    let opened = c.in_ok-opened.opened in
    let j = opened.history.journal in
    let reads = subst (λ (d : Content). Reads (finite.get d) opened.opening j) c.in_ok-stock.ensures.all c.in_ok-opened.ensures.read in
    subst (λ (r : Repository). IsKept j r c.in_ok-touch.touch c.in_ok-moves.moves.items 0 (g.S.Shelf.shelved c.read_stock.new.shelf)) (sym c.new.ensures)
    (kept_of content opened.opening j opened.live reads c.in_ok-opened.ensures.open c.in_ok-touch.touch c.in_ok-moves.moves.items (g.S.Shelf.shelved c.read_stock.new.shelf)
    c.in_ok-touch.ensures (c.in_ok-moves.ensures ∙ ap (due_in j) c.in_ok-stock.ensures.all) c.in_ok-stock.ensures.same)

pub returns-clause-read : goal.returns-clause-read
returns-clause-read g c =
    let opened = c.in_ok-opened.opened in
    let j = opened.history.journal in
    let reads = subst (λ (d : Content). Reads (finite.get d) opened.opening j) c.in_ok-stock.ensures.all c.in_ok-opened.ensures.read in
    read_of (g.S.Shelf.shelved c.args.shelf.now) (g.S.Shelf.shelved c.read_stock.new.shelf) opened.opening j opened.live c.new.result c.in_ok-moves.moves.items reads c.in_ok-opened.ensures.open
    c.new.ensures (c.in_ok-moves.ensures ∙ ap (due_in j) c.in_ok-stock.ensures.all) c.in_ok-stock.ensures.calls

-- where nothing is found
pub returns-in_err-stock-clause-given : goal.returns-in_err-stock-clause-given
returns-in_err-stock-clause-given g c =
    let due = err_from_is_err_and c.from_residual.result c.from_residual.ensures.1 in
    let before = g.S.Shelf.shelved c.args.shelf.now in
    let left = g.S.Shelf.shelved c.read_stock.new.shelf in
    subst (λ r. IfErr r (λ error. IsGivenBack before error left)) (sym (due.1 ∙ ap Err due.2))
    (short_given before c.in_err-stock.field-0.0 left c.in_err-stock.ensures.short)

pub returns-in_err-opened-clause-given : goal.returns-in_err-opened-clause-given
returns-in_err-opened-clause-given g c =
    let due = err_from_is_err_and c.from_residual-in_err-opened.result c.from_residual-in_err-opened.ensures.1 in
    let before = g.S.Shelf.shelved c.args.shelf.now in
    let left = g.S.Shelf.shelved c.read_stock.new.shelf in
    subst (λ r. IfErr r (λ error. IsGivenBack before error left)) (sym (due.1 ∙ ap Err due.2))
    (read_given before c.in_err-opened.field-0.0 left c.in_err-opened.ensures.why c.in_ok-stock.ensures.calls)

pub returns-in_err-moves-clause-given : goal.returns-in_err-moves-clause-given
returns-in_err-moves-clause-given g c =
    let due = err_from_is_err_and c.from_residual-in_err-moves.result c.from_residual-in_err-moves.ensures.1 in
    let before = g.S.Shelf.shelved c.args.shelf.now in
    let left = g.S.Shelf.shelved c.read_stock.new.shelf in
    subst (λ r. IfErr r (λ error. IsGivenBack before error left)) (sym due.1)
    (memory_given before due.0 left due.2 c.in_ok-stock.ensures.calls)

pub returns-in_err-touch-clause-given : goal.returns-in_err-touch-clause-given
returns-in_err-touch-clause-given g c =
    let due = err_from_is_err_and c.from_residual-in_err-touch.result c.from_residual-in_err-touch.ensures.1 in
    let before = g.S.Shelf.shelved c.args.shelf.now in
    let left = g.S.Shelf.shelved c.read_stock.new.shelf in
    subst (λ r. IfErr r (λ error. IsGivenBack before error left)) (sym due.1)
    (memory_given before due.0 left due.2 c.in_ok-stock.ensures.calls)
