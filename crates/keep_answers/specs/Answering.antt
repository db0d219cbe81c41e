-- What is written for a line, by whether and why it isn't answered to its end.
use Rattle.std.specs.Prelude.{◌≡◌, ℕ, true, ◌⊎◌, List, [], ◌++◌, Result, Ok, Err}
use Rattle.keep_lines.specs.declared.mistake.Mistake.{Mistake}
use Rattle.keep_answers.specs.Answer.{Answered, AnswersTo, IsBad, Shows}
use Rattle.keep_answers.specs.Meaning.{MeantData}
use Rattle.keep_answers.specs.State.{State}
use Rattle.keep_answers.specs.declared.halt.Halt.{Halt}
use Rattle.keep_answers.specs.declared.halt.Halt.TheVariants.{BadLine, WriteFailed, NoMemory, Untold}

-- there is an answer, and none of it is written: it tells that a call of the shelf failed, of which it isn't known whether
-- it was done
abbrev pub KeepsBack : (List ℕ → State → Type 0) → List ℕ → State → Type 0
KeepsBack IsAnswer text after = (text ≡ []) × (after.faulted ≡ true) × ((answer : List ℕ) × IsAnswer answer after)

-- nothing was done for what a command means, or the text is a first part of its answer
abbrev pub BeginsMeant : State → MeantData → List ℕ → State → Type 0
BeginsMeant state meant text after =
    Shows state [] text after ⊎ ((rest : List ℕ) × AnswersTo state meant (text ++ rest) after)

-- what is written for what a command means, and the state after it
abbrev pub AnswersMeant : State → MeantData → List ℕ → Result (Unit {0}) Halt → State → Type 0
AnswersMeant state meant text (Ok _) after = AnswersTo state meant text after
AnswersMeant state meant text (Err (BadLine why)) after = ⊥
AnswersMeant state meant text (Err WriteFailed) after = BeginsMeant state meant text after
AnswersMeant state meant text (Err NoMemory) after = BeginsMeant state meant text after
AnswersMeant state meant text (Err Untold) after = KeepsBack (AnswersTo state meant) text after

-- what is written for what a line is due to mean, and the state after it: that the line is bad, or the answer
abbrev pub AnswersDue : State → Result MeantData Mistake → List ℕ → Result (Unit {0}) Halt → State → Type 0
AnswersDue state due text (Err (BadLine why)) after = (due ≡ Err why) × Shows state [] text after
AnswersDue state due text result after =
    (meant : MeantData) × (due ≡ Ok meant) × AnswersMeant state meant text result after

-- nothing was done for the line, or the text is a first part of its answer
abbrev pub BeginsAnswer : State → List ℕ → List ℕ → State → Type 0
BeginsAnswer state line text after =
    Shows state [] text after ⊎ ((rest : List ℕ) × Answered state line (text ++ rest) after)

-- what is written for a line, and the state after it
abbrev pub AnswersLine : State → List ℕ → List ℕ → Result (Unit {0}) Halt → State → Type 0
AnswersLine state line text (Ok _) after = Answered state line text after
AnswersLine state line text (Err (BadLine why)) after = IsBad state line why × Shows state [] text after
AnswersLine state line text (Err WriteFailed) after = BeginsAnswer state line text after
AnswersLine state line text (Err NoMemory) after = BeginsAnswer state line text after
AnswersLine state line text (Err Untold) after = KeepsBack (Answered state line) text after
