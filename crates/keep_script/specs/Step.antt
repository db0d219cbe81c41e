-- What one line of a script gets done, by whether and why it failed.
use Rattle.std.specs.Prelude.{◌≡◌, ℕ, ◌⊎◌, List, [], ◌∷◌, ◌++◌, Option, IfSome, Bool, true, false, Result, Ok, Err, codes}
use Rattle.std.specs.Io.KnownBytes.{Consumes, IsAtEnd}
use Rattle.keep_answers.specs.Answer.{Answered, IsBad, Shows}
use Rattle.keep_answers.specs.Answering.{BeginsAnswer}
use Rattle.keep_answers.specs.State.{State}
use Rattle.keep_script.specs.Input.{LosesPiece}
use Rattle.keep_script.specs.Line.{HasLineEnd, lines_of}
use Rattle.keep_script.specs.declared.status.Stop.{Stop}
use Rattle.keep_script.specs.declared.status.Stop.TheVariants.{BadLine, ReadFailed, ScriptTooLong, WriteFailed, NoMemory, Untold}

-- known bytes begin with this line
abbrev pub BeginsWith : Option (List ℕ) → (List ℕ → Type 0) → Type 0
BeginsWith known P =
    IfSome known (λ bytes. (line : List ℕ) × (more : List (List ℕ)) × (lines_of bytes ≡ line ∷ more) × P line)

-- the last line, which has no end, where there is one
abbrev pub AnswersLast : State → List ℕ → List ℕ → State → Type 0
AnswersLast state [] text after = Shows state [] text after
AnswersLast state (b ∷ line) text after = Answered state (b ∷ line) text after

-- what is written for the next line, and the state after it; left and ahead are what is left to read, with what was read
-- ahead, and left' without it
abbrev pub AnswersNext : State → Option (List ℕ) → Option (List ℕ) → Option (List ℕ) → List ℕ
    → Result Bool Stop → State → Type 0
AnswersNext state left ahead left' text (Ok true) after =
    (line : List ℕ) × (HasLineEnd line → ⊥) × Consumes left ahead (line ++ codes "\n")
    × Answered state line text after
AnswersNext state left ahead left' text (Ok false) after =
    (line : List ℕ) × (HasLineEnd line → ⊥) × Consumes left ahead line × IsAtEnd ahead
    × AnswersLast state line text after
AnswersNext state left ahead left' text (Err (BadLine why)) after =
    BeginsWith left (λ line. IsBad state line why) × Shows state [] text after
AnswersNext state left ahead left' text (Err ReadFailed) after = LosesPiece left left' × Shows state [] text after
AnswersNext state left ahead left' text (Err ScriptTooLong) after = LosesPiece left left' × Shows state [] text after
AnswersNext state left ahead left' text (Err WriteFailed) after =
    Shows state [] text after ⊎ BeginsWith left (λ line. BeginsAnswer state line text after)
AnswersNext state left ahead left' text (Err NoMemory) after =
    Shows state [] text after ⊎ BeginsWith left (λ line. BeginsAnswer state line text after)
AnswersNext state left ahead left' text (Err Untold) after =
    (text ≡ []) × (after.faulted ≡ true)
    × BeginsWith left (λ line. (answer : List ℕ) × Answered state line answer after)
