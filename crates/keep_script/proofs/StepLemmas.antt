-- What is written for the next line.
use Rattle.std.proofs.Common.{◌≡◌, ℕ, ◌<◌, List, [], ◌∷◌, Option, Some, None, IfSome, Result, Err, Bool, length, inl, inr, refl, arith}
use Rattle.std.proofs.KnownBytes.{Appends-kept, Appends-nil, Appends-trans}
use Rattle.std.specs.Io.KnownBytes.{Appends, Keeps}
use Rattle.std.specs.List.{before_first}
use Rattle.keep_answers.proofs.AnswerLemmas.{Shows-nothing}
use Rattle.keep_script.proofs.LineLemmas.{Starts, lines_of-first}
use Rattle.keep_lines.specs.declared.mistake.Mistake.{Mistake}
use Rattle.keep_lines.specs.declared.mistake.Mistake.TheVariants.{TooLong}
use Rattle.keep_answers.specs.Answer.{Answered, IsBad}
use Rattle.keep_script.specs.Input.{EndsReading, LosesPiece}
use Rattle.keep_answers.specs.Known.{Writes}
use Rattle.keep_lines.specs.Line.{longest_line}
use Rattle.keep_script.specs.Line.{is_line_end}
use Rattle.keep_answers.specs.State.{State}
use Rattle.keep_answers.specs.Answering.{AnswersLine, BeginsAnswer}
use Rattle.keep_answers.specs.declared.halt.Halt.{Halt}
use Rattle.keep_answers.specs.declared.halt.Halt.TheVariants as halted
use Rattle.keep_script.specs.Status.{stop_of}
use Rattle.keep_script.specs.Step.{AnswersLast, AnswersNext, BeginsWith}
use Rattle.keep_script.specs.declared.status.Stop.{Stop}
use Rattle.keep_script.specs.declared.status.Stop.TheVariants.{BadLine, ReadFailed, ScriptTooLong, WriteFailed, NoMemory, Untold}

-- a writer that keeps its bytes got none
pub Appends-none : (a b : Option (List ℕ)) → Keeps a b → Appends a b []
Appends-none a b kept = Appends-kept a a b [] (Appends-nil a) kept

-- what is written after nothing was
pub Writes-after : (a b c : Option (List ℕ)) (P : List ℕ → Type 0) → Keeps a b → Writes b c P → Writes a c P
Writes-after a b c P kept (text, appended, holds) = (text, Appends-trans a b c [] text (Appends-none a b kept) appended, holds)

pub BeginsWith-from : (left : Option (List ℕ)) (line : List ℕ) (P : List ℕ → Type 0) → Starts left line → P line → BeginsWith left P
BeginsWith-from None line P start holds = tt
BeginsWith-from (Some bytes) line P start holds = (line, start.0, start.1, holds)

-- a line that is too long isn't one of the language
IsBad-long : (state : State) (left : Option (List ℕ)) → IfSome left (λ bytes. longest_line < length (before_first is_line_end bytes)) → BeginsWith left (λ line. IsBad state line TooLong)
IsBad-long state None long = tt
IsBad-long state (Some []) long = absurd (omega arith)
IsBad-long state (Some (b ∷ bytes)) long =
    let first = lines_of-first b bytes in
    (before_first is_line_end (b ∷ bytes), first.0, first.1, inl (inl (refl, long)))

-- the next line can't be read
pub AnswersNext-unread : (a b : Option (List ℕ)) (state : State) (left ahead left' : Option (List ℕ)) (stop : Stop) (r : Result Bool Stop) → Keeps a b
    → ((why : Mistake) → stop ≡ BadLine why → (why ≡ TooLong) × IfSome left (λ bytes. longest_line < length (before_first is_line_end bytes))) → (EndsReading stop → LosesPiece left left')
    → (stop ≡ Untold → ⊥) → r ≡ Err stop → Writes a b (λ t. AnswersNext state left ahead left' t r state)
AnswersNext-unread a b state left ahead left' (BadLine why) r kept long failed told same =
    let cause = long why refl in
    rw (same, cause.0) ([], Appends-none a b kept, (IsBad-long state left cause.1, Shows-nothing state))
AnswersNext-unread a b state left ahead left' ReadFailed r kept long failed told same =
    rw same ([], Appends-none a b kept, (failed (inl refl), Shows-nothing state))
AnswersNext-unread a b state left ahead left' ScriptTooLong r kept long failed told same =
    rw same ([], Appends-none a b kept, (failed (inr refl), Shows-nothing state))
AnswersNext-unread a b state left ahead left' WriteFailed r kept long failed told same = rw same ([], Appends-none a b kept, inl (Shows-nothing state))
AnswersNext-unread a b state left ahead left' NoMemory r kept long failed told same = rw same ([], Appends-none a b kept, inl (Shows-nothing state))
AnswersNext-unread a b state left ahead left' Untold r kept long failed told same = absurd (told refl)

-- the line was read, and its answer failed
pub AnswersNext-failed : (a b c : Option (List ℕ)) (state after : State) (line : List ℕ) (left ahead left' : Option (List ℕ)) (halt : Halt) (stop : Stop) (r : Result Bool Stop) → Keeps a b → Starts left line
    → Writes b c (λ t. AnswersLine state line t (Err halt) after) → stop ≡ stop_of halt → r ≡ Err stop → Writes a c (λ t. AnswersNext state left ahead left' t r after)
AnswersNext-failed a b c state after line left ahead left' (halted.BadLine why) stop r kept start (t, h, answer) is same =
    rw (same, is) (Writes-after a b c (λ t. AnswersNext state left ahead left' t (Err (BadLine why)) after) kept (t, h, (BeginsWith-from left line (λ l. IsBad state l why) start answer.0, answer.1)))
AnswersNext-failed a b c state after line left ahead left' halted.WriteFailed stop r kept start (t, h, answer) is same =
    rw (same, is) (Writes-after a b c (λ t. AnswersNext state left ahead left' t (Err WriteFailed) after) kept (t, h, inr (BeginsWith-from left line (λ l. BeginsAnswer state l t after) start answer)))
AnswersNext-failed a b c state after line left ahead left' halted.NoMemory stop r kept start (t, h, answer) is same =
    rw (same, is) (Writes-after a b c (λ t. AnswersNext state left ahead left' t (Err NoMemory) after) kept (t, h, inr (BeginsWith-from left line (λ l. BeginsAnswer state l t after) start answer)))
AnswersNext-failed a b c state after line left ahead left' halted.Untold stop r kept start (t, h, (none, faulted, answer)) is same =
    rw (same, is) (Writes-after a b c (λ t. AnswersNext state left ahead left' t (Err Untold) after) kept
    (t, h, (none, faulted, BeginsWith-from left line (λ l. (told : List ℕ) × Answered state l told after) start answer)))

-- the last line was answered
pub AnswersLast-some : (state after : State) (line t : List ℕ) → 0 < length line → Answered state line t after → AnswersLast state line t after
AnswersLast-some state after [] t some answer = absurd (omega arith)
AnswersLast-some state after (b ∷ line) t some answer = answer
