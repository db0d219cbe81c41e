-- What is read again of a book's shelf says the same of the changes that aren't final.
use Rattle.std.proofs.Common.{◌≡◌, ℕ, Bool, true, false, ◌&&◌, List, filter, nat_lt, refl, sym, ap, subst, ◌∙◌}
use Rattle.keep_repo.specs.Repository.{Repository}
use Rattle.keep_change.specs.Fold.{Numbered, fold_of}
use Rattle.keep_journal.specs.History.{committed, final_number}
use Rattle.keep_journal.specs.Journal.{Journal}
use Rattle.keep_journal.specs.Kept.{kept, unfinal}
use Rattle.keep_journal.proofs.Filters.{filter-filter}
use Rattle.keep_journal.proofs.KeptTold.{final_is, kept_is}
use Rattle.keep_journal.proofs.Telling.{committed_told}
use Rattle.keep_journal.specs.Laws.{LastingIsOpen}
use Rattle.keep_journal.specs.Lasting.{lasting}
use Rattle.keep_shelf.specs.Shelved.{Shelved}
use Rattle.keep_reading.specs.Reads.{OneReading}
use Rattle.keep_sound.specs.Selection.{IsSoundHistory}
use Rattle.keep_ledger.specs.LedgerState.{LedgerState}
use Rattle.keep_ledger.specs.OnShelf.{OnShelf}
use Rattle.keep_ledger.specs.Opened.{IsOpened}
use Rattle.keep_ledger.specs.Stops.{Says}
use Rattle.keep_planned_books.specs.SoundBooks.{IsSoundBook}
use Rattle.keep_planned_books.specs.History.{read_again}

and_same : (b : Bool) → (b && b) ≡ b
and_same true = refl
and_same false = refl

unfinal_told : (j : Journal) → unfinal (lasting j) ≡ unfinal j
unfinal_told j =
    let f : ℕ = final_number j in
    ap (λ (n : ℕ). filter (λ (c : Numbered). nat_lt n c.number) (committed (lasting j))) (final_is j)
    ∙ ap (filter (λ (c : Numbered). nat_lt f c.number)) (committed_told f j.entries)
    ∙ filter-filter (λ (c : Numbered). nat_lt f c.number) (λ c. nat_lt f c.number) (committed j)
    ∙ (λ i. filter (λ (c : Numbered). and_same (nat_lt f c.number) i) (committed j))

-- so it is as sound
pub read_sound : LastingIsOpen → (all : Repository) (book : LedgerState) → IsSoundBook all book → IsSoundBook all (read_again book)
read_sound stays all book sound = record {
  is_open = stays book.opening book.events book.live sound.is_open;
  history = subst (λ (ns : List Numbered). IsSoundHistory all book.opening ns) (sym (unfinal_told book.events)) sound.history;
}

-- and what is opened of a shelf that says what the book says is just that
pub opened_is : OneReading → (all : Repository) (book : LedgerState) → IsSoundBook all book → (shelf : Shelved) (read : OnShelf)
    → Says book shelf.content → IsOpened shelf read → read.state ≡ read_again book
opened_is one all book sound shelf read says is =
    let same = one _ _ _ _ _ is.reads says in
    let live : read.state.live ≡ book.live =
    is.is_open.state ∙ (λ i. fold_of (kept (same.1 i)) (same.0 i)) ∙ ap (λ (ns : List Numbered). fold_of ns book.opening) (kept_is book.events) ∙ sym sound.is_open.state in
    λ i. record { opening = same.0 i; events = same.1 i; live = live i }
