-- What a run over the lines of a script writes, and how it ends.
use Rattle.std.specs.Prelude.{◌≡◌, ℕ, ◌+◌, true, ◌⊎◌, List, [], ◌∷◌, ◌++◌, Option, None, IfSome}
use Rattle.std.specs.Io.KnownBytes.{Appends, Consumes, IsAtEnd, Keeps}
use Rattle.std.specs.List.{AllByRecursion}
use Rattle.keep_jobs.specs.Job.{SettingsData}
use Rattle.keep_jobs.specs.Kits.{KitData}
use Rattle.keep_shelf.specs.Shelved.{Shelved}
use Rattle.keep_ledger.specs.OnShelf.{OnShelf}
use Rattle.keep_ledger.specs.Opened.{IsOpened}
use Rattle.keep_lines.specs.declared.mistake.Mistake.{Mistake}
use Rattle.keep_answers.specs.Answer.{Answered, IsBad}
use Rattle.keep_answers.specs.Known.{AppendsPart}
use Rattle.keep_script.specs.Line.{HasLineEnd, ended, lines_of}
use Rattle.keep_answers.specs.State.{State}
use Rattle.keep_script.specs.Begun.{begun}
use Rattle.keep_script.specs.Status.{status_at_end}
use Rattle.keep_answers.specs.Text.{bad_line_answer}
use Rattle.keep_script.specs.declared.status.Stop.{Stop}
use Rattle.keep_script.specs.declared.status.Stop.TheVariants as stop
use Rattle.keep_script.specs.declared.status.RunStatus.{RunStatus}
use Rattle.keep_script.specs.declared.status.RunStatus.TheVariants.{Done, Faulted, BadLine, ReadFailed, ScriptTooLong, WriteFailed, NoMemory, Untold, NotOpened}

-- the run ends at a bad line of this number
pub record Stops (state : State) (number : ℕ) (line written : List ℕ)
    (status : RunStatus) (after : State) : Type 0 where
  pub why : Mistake
  pub bad : IsBad state line why
  pub text : written ≡ bad_line_answer number
  pub ended : status ≡ BadLine number why
  pub same : after ≡ state

-- the text for these lines, the first of this number, how a run over them ends, and the state that it leaves
abbrev pub Answer : State → ℕ → List (List ℕ) → List ℕ → RunStatus → State → Type 0
Answer state number [] text status after = (text ≡ []) × (status ≡ status_at_end state.faulted) × (after ≡ state)
Answer state number (line ∷ lines) text status after =
    Stops state number line text status after
    ⊎ ((first rest : List ℕ) × (next : State) × Answered state line first next × (text ≡ first ++ rest)
    × Answer next (number + 1) lines rest status after)

-- the text for the whole script
abbrev pub IsAnswer : State → Option (List ℕ) → List ℕ → RunStatus → State → Type 0
IsAnswer state known text status after =
    IfSome known (λ script. Answer state 1 (lines_of script) text status after)

-- the text for the lines that were whole, where no more than those and a piece of the next was read
pub record ReadUpTo (state : State) (known left : Option (List ℕ))
    (text : List ℕ) (after : State) : Type 0 where
  pub lines : List (List ℕ)
  pub piece : List ℕ
  pub each : AllByRecursion (λ line. HasLineEnd line → ⊥) lines
  pub last : HasLineEnd piece → ⊥
  pub read : Consumes known left (ended lines ++ piece)
  pub answer : Answer state 1 lines text (status_at_end after.faulted) after

-- the text breaks off: it is a first part of that for some first lines of the script
pub record BreaksOff (state : State) (script : List (List ℕ)) (text : List ℕ) (after : State) : Type 0 where
  pub lines : List (List ℕ)
  pub others : List (List ℕ)
  pub rest : List ℕ
  pub status : RunStatus
  pub split : script ≡ lines ++ others
  pub answer : Answer state 1 lines (text ++ rest) status after

-- what is written by a run from this state, over a reader that had the known bytes, by how it ended: a book is opened
-- before its run begins
abbrev pub Ends : State → Option (List ℕ) → Option (List ℕ) → List ℕ → RunStatus → State → Type 0
Ends state known left text Done after = IsAtEnd left × IsAnswer state known text Done after
Ends state known left text Faulted after = IsAtEnd left × IsAnswer state known text Faulted after
Ends state known left text (BadLine number why) after = IsAnswer state known text (BadLine number why) after
Ends state known left text ReadFailed after = ReadUpTo state known left text after
Ends state known left text ScriptTooLong after = ReadUpTo state known left text after
Ends state known left text WriteFailed after =
    IfSome known (λ script. BreaksOff state (lines_of script) text after)
Ends state known left text NoMemory after =
    IfSome known (λ script. BreaksOff state (lines_of script) text after)
Ends state known left text Untold after =
    IfSome known (λ script. BreaksOff state (lines_of script) text after) × (after.faulted ≡ true)
Ends state known left text (NotOpened error) after = ⊥

-- what is written by a run from the ledger that is opened of this shelf, with nothing armed: its shelf has the calls of
-- the opening, and then those of each line that was answered
abbrev pub EndsFrom : Shelved → SettingsData → KitData → Option (List ℕ) → Option (List ℕ) → List ℕ → RunStatus → State → Type 0
EndsFrom shelf settings kit known left text status after =
    (ledger : OnShelf) × IsOpened shelf ledger × Ends (begun settings kit ledger) known left text status after

-- nothing is read or written
abbrev pub IsUntouched : (known left old new : Option (List ℕ)) → Type 0
IsUntouched known left old new = Keeps known left × Keeps old new

-- what is written at a bad line, and how the run ends then
abbrev pub Refuses : Option (List ℕ) → Option (List ℕ) → ℕ → Mistake → RunStatus → Type 0
Refuses old new number why (BadLine k told) = (k ≡ number) × (told ≡ why) × Appends old new (bad_line_answer number)
Refuses old new number why WriteFailed = AppendsPart old new (bad_line_answer number)
Refuses old new number why NoMemory = AppendsPart old new (bad_line_answer number)
Refuses old new number why Done = ⊥
Refuses old new number why Faulted = ⊥
Refuses old new number why ReadFailed = ⊥
Refuses old new number why ScriptTooLong = ⊥
Refuses old new number why Untold = ⊥
Refuses old new number why (NotOpened error) = ⊥

-- how a run ends that stops at the line of this number, and what is written then
abbrev pub StopsAt : Option (List ℕ) → Option (List ℕ) → ℕ → Stop → RunStatus → Type 0
StopsAt old new number (stop.BadLine why) status = Refuses old new number why status
StopsAt old new number stop.ReadFailed status = (status ≡ ReadFailed) × Keeps old new
StopsAt old new number stop.ScriptTooLong status = (status ≡ ScriptTooLong) × Keeps old new
StopsAt old new number stop.WriteFailed status = (status ≡ WriteFailed) × Keeps old new
StopsAt old new number stop.NoMemory status = (status ≡ NoMemory) × Keeps old new
StopsAt old new number stop.Untold status = (status ≡ Untold) × Keeps old new
