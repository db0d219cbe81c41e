-- Planned histories lose nothing.
use Rattle.std.proofs.Common.{◌≡◌, ℕ, List, [], ◌∷◌, sym, subst}
use Rattle.keep_repo.specs.Repository.{Repository}
use Rattle.keep_sound.specs.Met.{HasOneText}
use Rattle.keep_sound.specs.Selection.{IsSoundState}
use Rattle.keep_journal.specs.Laws.{LastingIsOpen}
use Rattle.keep_reading.specs.Reads.{OneReading}
use Rattle.keep_ledger.specs.LedgerState.{LedgerState}
use Rattle.keep_ledger.specs.Made.{with_event}
use Rattle.keep_ledger.specs.Reply.{told_of}
use Rattle.keep_journal.specs.declared.request.Request.TheVariants.{Undo}
use Rattle.keep_book.specs.Cascade.{AreUndone, with_undos}
use Rattle.keep_read.specs.Losses.{SoundLosesNoBlob}
use Rattle.keep_planned_books.specs.SoundBooks.{SelectionsOfBooksAreSound}
use Rattle.keep_planned_books.specs.History.{BeginsWhole, IsPlannedHistory, accepted, begun, opened, read_again}
use Rattle.keep_planned_books.specs.Losing.{AnswersLoseNothing, BooksLoseNothing, CascadesLoseNothing, LosesNothing, OpeningsLoseNothing, SelectionsLoseNothing}
use Rattle.keep_planned_books.proofs.Heard.{by_reply}
use Rattle.keep_planned_books.proofs.Keeping.{Keep, Laws, keep_first, keep_next}
use Rattle.keep_planned_books.proofs.Opening.{opened_is, read_sound}

module _ (laws : Laws) (audits : SoundLosesNoBlob) (stays : LastingIsOpen) where
  loses_nothing : (r all : Repository) → HasOneText all → IsSoundState all r → LosesNothing r
  loses_nothing r all one is = record { whole = (laws.whole r all is.part one).0 is.sound; audit = audits r is.sound }

  keeps : (all opening : Repository) → BeginsWhole all opening → (books : List LedgerState) → IsPlannedHistory all opening books → Keep all books
  keeps all opening begins _ begun = keep_first laws all opening begins
  keeps all opening begins _ (accepted book earlier vetoes request told history planned replies) =
      keep_next laws all opening begins book earlier (keeps all opening begins (book ∷ earlier) history) vetoes request told planned replies
  keeps all opening begins _ (opened book earlier history) = (read_sound stays all book (keeps all opening begins (book ∷ earlier) history).0, tt)

  pub selections_lose_nothing : SelectionsOfBooksAreSound → SelectionsLoseNothing
  selections_lose_nothing selections all opening book earlier chosen begins history selected unbroken =
      loses_nothing _ all begins.met.one_text (selections all book chosen (keeps all opening begins (book ∷ earlier) history).0 selected unbroken)

  pub books_lose_nothing : BooksLoseNothing
  books_lose_nothing all opening book earlier begins history =
      loses_nothing book.live all begins.met.one_text (laws.sound all book (keeps all opening begins (book ∷ earlier) history).0)

  pub openings_lose_nothing : OneReading → OpeningsLoseNothing
  openings_lose_nothing one all opening book earlier shelf read begins history says is =
      let same : read_again book ≡ read.state = sym (opened_is one all book (keeps all opening begins (book ∷ earlier) history).0 shelf read says is) in (
        subst (λ (b : LedgerState). IsPlannedHistory all opening (b ∷ [])) same (opened book earlier history),
        subst (λ (b : LedgerState). LosesNothing b.live) same (books_lose_nothing all opening book earlier begins history),
      )

  pub answers_lose_nothing : AnswersLoseNothing
  answers_lose_nothing all opening book earlier vetoes request reply begins history planned replies =
      by_reply (λ (b : LedgerState). LosesNothing b.live) book vetoes request (books_lose_nothing all opening book earlier begins history)
      (λ told made. books_lose_nothing all opening (with_event book request) (book ∷ earlier) begins (accepted book earlier vetoes request told history planned made)) reply replies

  -- each undo that is accepted goes on with the history
  undone : (all opening : Repository) (numbers : List ℕ) (book : LedgerState) (earlier : List LedgerState) → IsPlannedHistory all opening (book ∷ earlier) → AreUndone book numbers
      → (between : List LedgerState) × IsPlannedHistory all opening (with_undos book numbers ∷ between)
  undone all opening [] book earlier history steps = (earlier, history)
  undone all opening (m ∷ ms) book earlier history steps =
      undone all opening ms (with_event book (Undo m)) (book ∷ earlier) (accepted book earlier [] (Undo m) (told_of book.events (Undo m)) history tt steps.0) steps.1

  pub cascades_lose_nothing : CascadesLoseNothing
  cascades_lose_nothing all opening book earlier numbers begins history steps =
      let after = undone all opening numbers book earlier history steps in
      (after, books_lose_nothing all opening (with_undos book numbers) after.0 begins after.1)
