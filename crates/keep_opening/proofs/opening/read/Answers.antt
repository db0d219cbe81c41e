-- The entries are read, the moves are made, and what is tested then decides.
use Rattle.std.proofs.Common.{◌≡◌, ℕ, ◌∙◌, sym, ap, subst}
use Rattle.std.specs.FinMap as finite
use Rattle.std.proofs.lemmas.Result.{err_from_is_err_and}
use Rattle.keep_change.specs.Fold.{fold_of}
use Rattle.keep_journal.specs.History.{length_of}
use Rattle.keep_journal.specs.Journal.{Journal}
use Rattle.keep_journal.specs.Kept.{kept}
use Rattle.keep_journal.specs.Opening.{IsOpen}
use Rattle.keep_moves.specs.Move.{Stand}
use Rattle.keep_reading.specs.Reads.{Reads}
use Rattle.keep_reading.specs.Settled.{settled}
use Rattle.keep_repo.specs.Repository.{Repository}
use Rattle.keep_shelf.specs.Shelved.{Content}
use Rattle.keep_opening.specs.Opened.{IsRefused, IsRight, marks_alone, opening_in}
use Rattle.keep_opening.specs.declared.open_error.OpenError.TheVariants as the_error
use Rattle.keep_opening.proofs.Glued.{if_err_two, if_ok_three, if_ok_two, refused_first, right_open, right_reads, tells_formed, wrong_refused}
use Rattle.keep_opening.proofs.opening.read.Goals as goal

pub returns-in_err-history-clause-refused : goal.returns-in_err-history-clause-refused
returns-in_err-history-clause-refused g c =
    let due = err_from_is_err_and c.from_residual-in_err-history.result c.from_residual-in_err-history.ensures.1 in
    rw due.1 (λ k is. refused_first (finite.get c.args.stock.now) c.in_ok-leaves.leaves.items k c.in_ok-leaves.ensures (c.in_err-history.ensures.bad k (sym due.2 ∙ is)))

pub test-requires : goal.test-requires
test-requires g c = record {
  formed = tells_formed (finite.get c.args.stock.now) c.in_ok-leaves.leaves.items c.in_ok-leaves.ensures c.in_ok-history.ensures.right c.in_ok-history.history.journal c.in_ok-history.ensures.told;
}

pub returns-clause-read : goal.returns-clause-read
returns-clause-read g c =
    let stand : Stand = finite.get c.args.stock.now in
    let leaves = c.in_ok-leaves.leaves.items in
    let j : Journal = c.in_ok-history.history.journal in
    let marked : Repository = c.in_ok-marked.marked in
    let content : Content = c.settle.new.stock in
    let alone : marked ≡ marks_alone leaves = c.in_ok-marked.ensures ∙ ap marks_alone c.as_slice.ensures.value in
    let made : finite.get content ≡ settled j stand = c.in_ok-settle.ensures ∙ ap (λ (s : Content). settled j (finite.get s)) c.in_ok-settled.ensures in
    if_ok_three c.test.result (λ o. o.opening ≡ opening_in j content marked) (λ o. o.history.journal ≡ j) (λ o. IsRight j content o.opening)
    (λ o. Reads stand o.opening o.history.journal) c.test.ensures.opening c.test.ensures.history c.test.ensures.right
    (λ o opening history right.
    subst (λ (i : Journal). Reads stand o.opening i) (sym history) (subst (λ (p : Repository). Reads stand p j) (sym opening)
    (right_reads stand leaves c.in_ok-leaves.ensures c.in_ok-history.ensures.right j c.in_ok-history.ensures.told marked alone content made
    (subst (λ (p : Repository). IsRight j content p) opening right))))

pub returns-clause-open : goal.returns-clause-open
returns-clause-open g c =
    let stand : Stand = finite.get c.args.stock.now in
    let leaves = c.in_ok-leaves.leaves.items in
    let j : Journal = c.in_ok-history.history.journal in
    let marked : Repository = c.in_ok-marked.marked in
    let content : Content = c.settle.new.stock in
    let alone : marked ≡ marks_alone leaves = c.in_ok-marked.ensures ∙ ap marks_alone c.as_slice.ensures.value in
    let made : finite.get content ≡ settled j stand = c.in_ok-settle.ensures ∙ ap (λ (s : Content). settled j (finite.get s)) c.in_ok-settled.ensures in
    let opened = if_ok_two c.test.result (λ o. o.opening ≡ opening_in j content marked) (λ o. o.live ≡ fold_of (kept j) o.opening)
    (λ o. (o.opening ≡ opening_in j content marked) × (o.live ≡ fold_of (kept j) o.opening)) c.test.ensures.opening c.test.ensures.live (λ o p q. (p, q)) in
    if_ok_three c.test.result (λ o. (o.opening ≡ opening_in j content marked) × (o.live ≡ fold_of (kept j) o.opening)) (λ o. o.history.journal ≡ j) (λ o. IsRight j content o.opening)
    (λ o. IsOpen o.opening o.history.journal o.live) opened c.test.ensures.history c.test.ensures.right
    (λ o both history right.
    subst (λ (i : Journal). IsOpen o.opening i o.live) (sym history) (subst (λ (p : Repository). IsOpen p j o.live) (sym both.0)
    (right_open stand leaves c.in_ok-leaves.ensures c.in_ok-history.ensures.right j c.in_ok-history.ensures.told marked alone content made
    o.live (subst (λ (p : Repository). IsRight j content p) both.0 right) (both.1 ∙ ap (fold_of (kept j)) both.0))))

pub returns-clause-refused : goal.returns-clause-refused
returns-clause-refused g c =
    let stand : Stand = finite.get c.args.stock.now in
    let leaves = c.in_ok-leaves.leaves.items in
    let j : Journal = c.in_ok-history.history.journal in
    let marked : Repository = c.in_ok-marked.marked in
    let content : Content = c.settle.new.stock in
    let alone : marked ≡ marks_alone leaves = c.in_ok-marked.ensures ∙ ap marks_alone c.as_slice.ensures.value in
    let made : finite.get content ≡ settled j stand = c.in_ok-settle.ensures ∙ ap (λ (s : Content). settled j (finite.get s)) c.in_ok-settled.ensures in
    if_err_two c.test.result (λ why. (k : ℕ) → why ≡ the_error.BadEntry k → k ≡ length_of j)
    (λ why. (k : ℕ) → why ≡ the_error.BadEntry k → IsRight j content (opening_in j content marked) → ⊥)
    (λ why. (k : ℕ) → why ≡ the_error.BadEntry k → IsRefused stand k) c.test.ensures.number c.test.ensures.wrong
    (λ why number wrong k is.
    wrong_refused stand leaves c.in_ok-leaves.ensures c.in_ok-history.ensures.right j c.in_ok-history.ensures.told marked alone content made
    k (number k is) (wrong k is))
