-- What is taken back with a change, and what that leaves.
use Rattle.std.specs.Prelude.{◌≡◌, ◌≢◌, ℕ, ◌+◌, nat_le, false, not, if◌then◌else◌, List, [], ◌∷◌, ◌++◌, drop, fold, length, Option, Some, None, Result, Ok, Err, unwrap_or, ◌⊎◌}
use Rattle.std.specs.List.{AllByRecursion}
use Rattle.keep_change.specs.Fold.{fold_of}
use Rattle.keep_journal.specs.History.{final_number, is_change, is_in_force}
use Rattle.keep_journal.specs.Journal.{Journal}
use Rattle.keep_journal.specs.Opening.{IsOpen}
use Rattle.keep_shelf.specs.Shelved.{Content}
use Rattle.keep_touch.specs.Taken.{AreTaken}
use Rattle.keep_touch.specs.Undone.{kept_without, undone_in}
use Rattle.keep_ledger.specs.Ends.{Ends, FaultsAtMoves, failures_after}
use Rattle.keep_ledger.specs.LedgerState.{LedgerState}
use Rattle.keep_ledger.specs.Made.{with_event}
use Rattle.keep_ledger.specs.OnShelf.{OnShelf, entered, settled}
use Rattle.keep_ledger.specs.Reply.{Replies, early_refusal, first_of, is_full, told_of}
use Rattle.keep_ledger.specs.Stops.{Says}
use Rattle.keep_ledger.specs.declared.reply.Refusal.{Refusal}
use Rattle.keep_ledger.specs.declared.reply.Refusal.TheVariants.{Unknown, Final, NotInForce, Full, Memory, Fault, Unsettled}
use Rattle.keep_journal.specs.declared.request.Request.TheVariants.{Undo}
use Rattle.keep_book.specs.Armed.{HasSums, hooks_of, ledger_of, on_shelf}
use Rattle.keep_book.specs.declared.book.Book.{Book}
use Rattle.keep_book.specs.declared.taken_back.TakenBack.{TakenBack}

-- ---- what is asked first

-- why change n can't be taken back, whatever leans on it
abbrev pub taken_refusal : Journal → ℕ → Option Refusal
taken_refusal j n =
    first_of ((not (is_change j n), Unknown) ∷ (nat_le n (final_number j), Final)
    ∷ (not (is_in_force j n), NotInForce) ∷ [])

-- the refusal where there is one; and else what is given, unless memory runs out
abbrev pub RefusesOrGives : {A : Type 0} → Option Refusal → (A → Type 0) → Result A Refusal → Type 0
RefusesOrGives (Some refusal) good reply = reply ≡ Err refusal
RefusesOrGives None good (Ok given) = good given
RefusesOrGives None good (Err refusal) = refusal ≡ Memory

-- ---- the undos, in turn

-- the ledger with an undo of each of these changes, one after another
abbrev pub with_undos : LedgerState → List ℕ → LedgerState
with_undos b numbers = fold (λ before m. with_event before (Undo m)) b numbers

-- each of these undos, in turn, is one that the ledger accepts
abbrev pub AreUndone : LedgerState → List ℕ → Type 0
AreUndone b [] = Unit {0}
AreUndone b (m ∷ ms) = Replies b [] (Undo m) (Ok (told_of b.events (Undo m))) × AreUndone (with_event b (Undo m)) ms

-- where those above it are taken back, nothing leans on the next: its undo is refused only where there is no room
abbrev pub NothingLeansOnTheNext : Type 0
NothingLeansOnTheNext =
    (b : LedgerState) (n : ℕ) (done : List ℕ) (next : ℕ) (left : List ℕ) → IsOpen b.opening b.events b.live
    → taken_refusal b.events n ≡ None → AreTaken b.events n (done ++ next ∷ left) → AreUndone b done
    → early_refusal (with_undos b done) (Undo next) ≡ (if is_full (undone_in b.events done) then Some Full else None)

-- ---- how far it comes

-- no undo is asked for: change n is refused, or there is no memory for the list of what has to be taken back
abbrev pub AsksNothing : Journal → ℕ → List ℕ → Option Refusal → Type 0
AsksNothing j n numbers stopped = (numbers ≡ []) × (stopped ≡ Some (unwrap_or (taken_refusal j n) Memory))

-- why these are taken back and no more, where those are left: none is left; or the last of these is unsettled; or the
-- next isn't taken back, since the shelf fails before its event is in, or there is no room for it, or no memory
abbrev pub StopsBefore : Journal → List ℕ → List ℕ → Option Refusal → Type 0
StopsBefore j numbers left None = left ≡ []
StopsBefore j numbers left (Some (Unsettled m)) = (front : List ℕ) × (numbers ≡ front ++ m ∷ [])
StopsBefore j numbers left (Some refusal) =
    (left ≢ []) × ((refusal ≡ Fault) ⊎ (refusal ≡ (if is_full (undone_in j numbers) then Full else Memory)))

-- how many are taken back, where so many were when the next undo was refused: an unsettled one is taken back itself
abbrev pub count_at : ℕ → Refusal → ℕ
count_at done (Unsettled m) = done + 1
count_at done refusal = done

-- of what has to be taken back with change n these are, from the greatest down, and no more
pub record TakesDown (j : Journal) (n : ℕ) (numbers : List ℕ) (stopped : Option Refusal) : Type 0 where
  pub free : taken_refusal j n ≡ None
  pub left : List ℕ
  pub taken : AreTaken j n (numbers ++ left)
  pub stops : StopsBefore j numbers left stopped

-- either way
abbrev pub TakesAlong : Journal → ℕ → List ℕ → Option Refusal → Type 0
TakesAlong j n numbers stopped = AsksNothing j n numbers stopped ⊎ TakesDown j n numbers stopped

-- ---- on the shelf

-- each of these changes is taken back to the end, in turn: the moves that were due are made, the undo is entered, and
-- its moves are made
abbrev pub undone_on : OnShelf → List ℕ → OnShelf
undone_on b numbers = fold (λ before m. settled (entered (Undo m) (settled before))) b numbers

-- what is left on the shelf: these are taken back to the end, but for a last one that is unsettled; that one, or the
-- next where it is refused, ends as the ledger's answer says
abbrev pub EndsBefore : OnShelf → List ℕ → List ℕ → Option Refusal → OnShelf → Type 0
EndsBefore b numbers left None after = after ≡ undone_on b numbers
EndsBefore b numbers left (Some (Unsettled m)) after =
    (front : List ℕ) × (numbers ≡ front ++ m ∷ []) × Ends (undone_on b front) (Undo m) (Err (Unsettled m)) after
EndsBefore b numbers left (Some refusal) after =
    (next : ℕ) × (more : List ℕ) × (left ≡ next ∷ more) × Ends (undone_on b numbers) (Undo next) (Err refusal) after

-- the answer tells how far it came, and so what is left on the shelf
pub record EndsDown (b : OnShelf) (n : ℕ) (numbers : List ℕ) (stopped : Option Refusal) (after : OnShelf) : Type 0 where
  pub takes : TakesDown b.state.events n numbers stopped
  pub ends : EndsBefore b numbers takes.left stopped after

-- where no undo is asked for, no call is made, not of a move that is due either
abbrev pub EndsAlong : OnShelf → ℕ → List ℕ → Option Refusal → OnShelf → Type 0
EndsAlong b n numbers stopped after =
    (AsksNothing b.state.events n numbers stopped × (after ≡ b)) ⊎ EndsDown b n numbers stopped after

-- where the shelf's fault is the answer, a move that was due failed, or there was room for the next undo
abbrev pub FaultsNext : OnShelf → List ℕ → Option Refusal → OnShelf → Type 0
FaultsNext b numbers stopped after =
    stopped ≡ Some Fault → FaultsAtMoves b after ⊎ (is_full (undone_in b.state.events numbers) ≡ false)

-- the shelf's count of failures after it: one more just where it was stopped by a Fault or an unsettled change
abbrev pub failures_at : Option Refusal → ℕ → ℕ
failures_at None n = n
failures_at (Some refusal) n = failures_after (Err refusal) n

-- this content says what is so once some of what has to be taken back with change n is, from the greatest down
pub record SaysSome (b : LedgerState) (n : ℕ) (content : Content) : Type 0 where
  pub front : List ℕ
  pub left : List ℕ
  pub taken : AreTaken b.events n (front ++ left)
  pub says : Says (with_undos b front) content

-- so does what each call left
abbrev pub EachCallSays : OnShelf → ℕ → OnShelf → Type 0
EachCallSays b n after = AllByRecursion (SaysSome b.state n) (drop (length b.shelf.calls) after.shelf.calls)

-- ---- all of it

-- change n is taken back with what leans on it, as far as the answer tells: each undo is one that the ledger accepts,
-- and adds its event; the other changes in force make the live repository; the answer tells of the calls too, each of
-- which left a shelf that says what is so after some of the undos; what is armed stays, and each total is still the sum
pub record Cascades {S I F g J E h : _} (before : Book S I F g J E h) (n : ℕ)
    (back : TakenBack) (after : Book S I F g J E h) : Type 0 where
  pub along : TakesAlong (ledger_of before).events n back.numbers.items back.stopped
  pub accepted : AreUndone (ledger_of before) back.numbers.items
  pub ledger : ledger_of after ≡ with_undos (ledger_of before) back.numbers.items
  pub others : (ledger_of after).live
      ≡ fold_of (kept_without (ledger_of before).events back.numbers.items) (ledger_of before).opening
  pub ends : EndsAlong (on_shelf before) n back.numbers.items back.stopped (on_shelf after)
  pub faults : FaultsNext (on_shelf before) back.numbers.items back.stopped (on_shelf after)
  pub failures : (on_shelf after).shelf.failures ≡ failures_at back.stopped (on_shelf before).shelf.failures
  pub stops : EachCallSays (on_shelf before) n (on_shelf after)
  pub hooks : hooks_of after ≡ hooks_of before
  pub sums : HasSums after
