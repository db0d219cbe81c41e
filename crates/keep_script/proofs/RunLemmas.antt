-- What a run has done after some lines, and what it has done when it ends.
use Rattle.std.proofs.Common.{◌≡◌, ℕ, ◌+◌, Bool, true, false, List, [], ◌∷◌, ◌++◌, Option, Some, None, IfSome, Err, ◌⊎◌, inl, inr, refl, sym, ap, subst, ◌∙◌, append_assoc, append-nil}
use Rattle.std.proofs.KnownBytes.{Appends-kept, Appends-nil, Appends-trans, Consumes-nil, Consumes-trans}
use Rattle.std.proofs.lemmas.Grind.{flat_map-append}
use Rattle.std.specs.Io.KnownBytes.{Appends, Consumes, IsAtEnd, Keeps}
use Rattle.std.specs.List.{AllByRecursion}
use Rattle.keep_script.proofs.LineLemmas.{lines_of-front, lines_of-last}
use Rattle.keep_answers.specs.Answer.{Answered, IsBad, Shows}
use Rattle.keep_script.specs.Input.{LosesPiece}
use Rattle.keep_answers.specs.Known.{Writes}
use Rattle.keep_script.specs.Line.{HasLineEnd, ended, lines_of}
use Rattle.keep_script.specs.Run.{Answer, BreaksOff, Ends, IsAnswer, ReadUpTo, Refuses, StopsAt}
use Rattle.keep_answers.specs.State.{State}
use Rattle.keep_script.specs.Status.{ReachesEnd, status_at_end}
use Rattle.keep_answers.specs.Answering.{BeginsAnswer}
use Rattle.keep_script.specs.Step.{AnswersLast, AnswersNext, BeginsWith}
use Rattle.keep_answers.specs.Text.{bad_line_answer}
use Rattle.keep_lines.specs.declared.mistake.Mistake.{Mistake}
use Rattle.keep_script.specs.declared.status.RunStatus.{RunStatus}
use Rattle.keep_script.specs.declared.status.RunStatus.TheVariants as ended_as
use Rattle.keep_script.specs.declared.status.Stop.{Stop}
use Rattle.keep_script.specs.declared.status.Stop.TheVariants.{BadLine, ReadFailed, ScriptTooLong, WriteFailed, NoMemory, Untold}

-- some lines were read and answered: whatever the next ones are, the answers to those come after it
pub record Progress (known left old new : Option (List ℕ)) (begun now : State) (number : ℕ) : Type 0 where
  pub lines : List (List ℕ)
  pub text : List ℕ
  pub each : AllByRecursion (λ line. HasLineEnd line → ⊥) lines
  pub read : Consumes known left (ended lines)
  pub written : Appends old new text
  pub goes_on : (more : List (List ℕ)) (t : List ℕ) (status : RunStatus) (after : State) → Answer now number more t status after → Answer begun 1 (lines ++ more) (text ++ t) status after

pub Progress-none : (known old : Option (List ℕ)) (begun : State) → Progress known known old old begun begun 1
Progress-none known old begun = record {
  lines = [];
  text = [];
  each = tt;
  read = Consumes-nil known;
  written = Appends-nil old;
  goes_on = λ more t status after h. h;
}

each_more : (lines : List (List ℕ)) (line : List ℕ) → AllByRecursion (λ l. HasLineEnd l → ⊥) lines → (HasLineEnd line → ⊥) → AllByRecursion (λ l. HasLineEnd l → ⊥) (lines ++ line ∷ [])
each_more [] line each none = (none, tt)
each_more (l ∷ lines) line each none = (each.0, each_more lines line each.1 none)

ended_more : (lines : List (List ℕ)) (line : List ℕ) → ended (lines ++ line ∷ []) ≡ ended lines ++ (line ++ 10 ∷ [])
ended_more lines line = flat_map-append (λ l. l ++ 10 ∷ []) lines (line ∷ []) ∙ ap (λ l. ended lines ++ l) (append-nil (line ++ 10 ∷ []))

-- one line more was read and answered
pub Progress-more : (known left ahead old new newer : Option (List ℕ)) (begun now next : State) (number : ℕ) (line t : List ℕ)
    → Progress known left old new begun now number → (HasLineEnd line → ⊥) → Consumes left ahead (line ++ 10 ∷ []) → Answered now line t next → Appends new newer t
    → Progress known ahead old newer begun next (number + 1)
Progress-more known left ahead old new newer begun now next number line t so_far none taken answer appended = record {
  lines = so_far.lines ++ line ∷ [];
  text = so_far.text ++ t;
  each = each_more so_far.lines line so_far.each none;
  read = subst (Consumes known ahead) (sym (ended_more so_far.lines line)) (Consumes-trans known left ahead (ended so_far.lines) (line ++ 10 ∷ []) so_far.read taken);
  written = Appends-trans old new newer so_far.text t so_far.written appended;
  goes_on = λ more u status after h.
      let further = so_far.goes_on (line ∷ more) (t ++ u) status after (inr (t, u, next, answer, refl, h)) in
      rw (append_assoc so_far.lines (line ∷ []) more, append_assoc so_far.text t u) further;
}

-- ---- how it ends

-- the answers to the last line, which has no end
Answer-last : (state after : State) (number : ℕ) (line t : List ℕ) → (HasLineEnd line → ⊥) → AnswersLast state line t after → Answer state number (lines_of line) t (status_at_end after.faulted) after
Answer-last state after number [] t none answer = (answer.text, ap (λ (s : State). status_at_end s.faulted) answer.same, answer.same)
Answer-last state after number (b ∷ line) t none answer = rw (lines_of-last b line none) (inr (t, [], after, answer, sym (append-nil t), (refl, refl, refl)))

-- what holds of the lines that were read and those that are left holds of the lines of all
known-lines : (known left : Option (List ℕ)) (lines : List (List ℕ)) (P : List (List ℕ) → Type 0) → AllByRecursion (λ line. HasLineEnd line → ⊥) lines → Consumes known left (ended lines)
    → IfSome left (λ bytes. P (lines ++ lines_of bytes)) → IfSome known (λ script. P (lines_of script))
known-lines None left lines P each read h = tt
known-lines (Some xs) None lines P each read h = absurd read
known-lines (Some xs) (Some ys) lines P each read h = subst P (sym (ap lines_of read ∙ lines_of-front lines ys each)) h

-- where all was read, so it does of the last line
all-lines : (known ahead : Option (List ℕ)) (lines : List (List ℕ)) (line : List ℕ) (P : List (List ℕ) → Type 0) → AllByRecursion (λ l. HasLineEnd l → ⊥) lines
    → Consumes known ahead (ended lines ++ line) → IsAtEnd ahead → P (lines ++ lines_of line) → IfSome known (λ script. P (lines_of script))
all-lines None ahead lines line P each read end h = tt
all-lines (Some xs) None lines line P each read end h = absurd read
all-lines (Some xs) (Some ys) lines line P each read end h =
    let all : xs ≡ ended lines ++ line = read ∙ ap (λ l. (ended lines ++ line) ++ l) end ∙ append-nil (ended lines ++ line) in
    subst P (sym (ap lines_of all ∙ lines_of-front lines line each)) h

-- the script's end
at_end : (known left : Option (List ℕ)) (begun after : State) (text : List ℕ) (faulted : Bool) → IsAtEnd left → IsAnswer begun known text (status_at_end faulted) after
    → Ends begun known left text (status_at_end faulted) after
at_end known left begun after text true end answer = (end, answer)
at_end known left begun after text false end answer = (end, answer)

-- all was read and answered
pub Ends-end : (known left ahead left' old new newer : Option (List ℕ)) (begun now after : State) (number : ℕ) (line t : List ℕ)
    → Progress known left old new begun now number → (HasLineEnd line → ⊥) → Consumes left ahead line → IsAtEnd ahead → IsAtEnd left' → AnswersLast now line t after → Appends new newer t
    → Writes old newer (λ text. Ends begun known left' text (status_at_end after.faulted) after)
Ends-end known left ahead left' old new newer begun now after number line t so_far none taken end end' answer appended =
    let read = Consumes-trans known left ahead (ended so_far.lines) line so_far.read taken in
    let whole = so_far.goes_on (lines_of line) t (status_at_end after.faulted) after (Answer-last now after number line t none answer) in (
      so_far.text ++ t,
      Appends-trans old new newer so_far.text t so_far.written appended,
      at_end known left' begun after (so_far.text ++ t) after.faulted end'
          (all-lines known ahead so_far.lines line (λ ls. Answer begun 1 ls (so_far.text ++ t) (status_at_end after.faulted) after) so_far.each read end whole),
    )

-- nothing more is written
Appends-nothing : (a b c : Option (List ℕ)) (text t : List ℕ) → Appends a b text → Appends b c t → t ≡ [] → Appends a c text
Appends-nothing a b c text t h k none = subst (Appends a c) (ap (λ l. text ++ l) none ∙ append-nil text) (Appends-trans a b c text t h k)

-- no more was read
pub Ends-unread : (known left left' old new newer : Option (List ℕ)) (begun now after : State) (number : ℕ) (t : List ℕ)
    → Progress known left old new begun now number → LosesPiece left left' → Shows now [] t after → Appends new newer t
    → Writes old newer (λ text. ReadUpTo begun known left' text after)
Ends-unread known left left' old new newer begun now after number t so_far lost shown appended =
    let whole = so_far.goes_on [] [] (status_at_end after.faulted) after (refl, ap (λ (s : State). status_at_end s.faulted) shown.same, shown.same) in (
      so_far.text,
      Appends-nothing old new newer so_far.text t so_far.written appended shown.text,
      record {
        lines = so_far.lines;
        piece = lost.0;
        each = so_far.each;
        last = lost.1;
        read = Consumes-trans known left left' (ended so_far.lines) lost.0 so_far.read lost.2;
        answer = rw (append-nil so_far.lines, append-nil so_far.text) at whole;
      },
    )

-- ---- it breaks off

-- after whole lines
broken-none : (known left old new : Option (List ℕ)) (begun now after : State) (number : ℕ) (t : List ℕ) (more : List (List ℕ)) (so_far : Progress known left old new begun now number)
    → Shows now [] t after → BreaksOff begun (so_far.lines ++ more) (so_far.text ++ t) after
broken-none known left old new begun now after number t more so_far shown =
    let whole = so_far.goes_on [] (t ++ []) (status_at_end now.faulted) after (append-nil t ∙ shown.text, refl, shown.same) in
    record {
      lines = so_far.lines;
      others = more;
      rest = [];
      status = status_at_end now.faulted;
      split = refl;
      answer = rw (append-nil so_far.lines, ← append_assoc so_far.text t []) at whole;
    }

-- within the answer to a line
broken-within : (known left old new : Option (List ℕ)) (begun now after : State) (number : ℕ) (line t : List ℕ) (more : List (List ℕ)) (so_far : Progress known left old new begun now number)
    → BeginsAnswer now line t after → BreaksOff begun (so_far.lines ++ line ∷ more) (so_far.text ++ t) after
broken-within known left old new begun now after number line t more so_far (inl shown) = broken-none known left old new begun now after number t (line ∷ more) so_far shown
broken-within known left old new begun now after number line t more so_far (inr (rest, answer)) =
    let whole = so_far.goes_on (line ∷ []) (t ++ rest) (status_at_end after.faulted) after (inr (t ++ rest, [], after, answer, sym (append-nil (t ++ rest)), (refl, refl, refl))) in
    record {
      lines = so_far.lines ++ line ∷ [];
      others = more;
      rest = rest;
      status = status_at_end after.faulted;
      split = sym (append_assoc so_far.lines (line ∷ []) more);
      answer = rw (← append_assoc so_far.text t rest) at whole;
    }

broken-next : (known left old new : Option (List ℕ)) (begun now after : State) (number : ℕ) (t : List ℕ) (so_far : Progress known left old new begun now number)
    → Shows now [] t after ⊎ BeginsWith left (λ line. BeginsAnswer now line t after) → IfSome left (λ bytes. BreaksOff begun (so_far.lines ++ lines_of bytes) (so_far.text ++ t) after)
broken-next known None old new begun now after number t so_far h = tt
broken-next known (Some bytes) old new begun now after number t so_far (inl shown) = broken-none known (Some bytes) old new begun now after number t (lines_of bytes) so_far shown
broken-next known (Some bytes) old new begun now after number t so_far (inr (line, more, first, answer)) =
    rw first (broken-within known (Some bytes) old new begun now after number line t more so_far answer)

pub Breaks : (known left old new newer : Option (List ℕ)) (begun now after : State) (number : ℕ) (t : List ℕ)
    → Progress known left old new begun now number → Shows now [] t after ⊎ BeginsWith left (λ line. BeginsAnswer now line t after) → Appends new newer t
    → Writes old newer (λ text. IfSome known (λ script. BreaksOff begun (lines_of script) text after))
Breaks known left old new newer begun now after number t so_far h appended = (
  so_far.text ++ t,
  Appends-trans old new newer so_far.text t so_far.written appended,
  known-lines known left so_far.lines (λ ls. BreaksOff begun ls (so_far.text ++ t) after) so_far.each so_far.read (broken-next known left old new begun now after number t so_far h),
)

-- ---- a bad line

bad-next : (known left old new : Option (List ℕ)) (begun now after : State) (number : ℕ) (why : Mistake) (so_far : Progress known left old new begun now number)
    → BeginsWith left (λ line. IsBad now line why) → after ≡ now → IfSome left (λ bytes. Answer begun 1 (so_far.lines ++ lines_of bytes) (so_far.text ++ bad_line_answer number) (ended_as.BadLine number why) after)
bad-next known None old new begun now after number why so_far h same = tt
bad-next known (Some bytes) old new begun now after number why so_far (line, more, first, bad) same =
    rw first (so_far.goes_on (line ∷ more) (bad_line_answer number) (ended_as.BadLine number why) after (inl (record { why = why; bad = bad; text = refl; ended = refl; same = same })))

bad-known : (known left old new : Option (List ℕ)) (begun now after : State) (number : ℕ) (why : Mistake) (so_far : Progress known left old new begun now number)
    → BeginsWith left (λ line. IsBad now line why) → after ≡ now → IsAnswer begun known (so_far.text ++ bad_line_answer number) (ended_as.BadLine number why) after
bad-known known left old new begun now after number why so_far h same =
    known-lines known left so_far.lines (λ ls. Answer begun 1 ls (so_far.text ++ bad_line_answer number) (ended_as.BadLine number why) after) so_far.each so_far.read
    (bad-next known left old new begun now after number why so_far h same)

-- an answer of which a first part was written
pub broken-part : (known : Option (List ℕ)) (begun after : State) (text part rest whole : List ℕ) (status : RunStatus) → whole ≡ part ++ rest → IsAnswer begun known (text ++ whole) status after
    → IfSome known (λ script. BreaksOff begun (lines_of script) (text ++ part) after)
broken-part None begun after text part rest whole status split h = tt
broken-part (Some script) begun after text part rest whole status split h = record {
  lines = lines_of script;
  others = [];
  rest = rest;
  status = status;
  split = sym (append-nil (lines_of script));
  answer = subst (λ t. Answer begun 1 (lines_of script) t status after) (ap (λ l. text ++ l) split ∙ sym (append_assoc text part rest)) h;
}

pub Ends-bad : (known left left' old new newer newest : Option (List ℕ)) (begun now after : State) (number : ℕ) (why : Mistake) (t : List ℕ) (status : RunStatus)
    → Progress known left old new begun now number → BeginsWith left (λ line. IsBad now line why) → Shows now [] t after → Appends new newer t → Refuses newer newest number why status
    → Writes old newest (λ text. Ends begun known left' text status after)
Ends-bad known left left' old new newer newest begun now after number why t ended_as.Done so_far h shown appended wrote = absurd wrote
Ends-bad known left left' old new newer newest begun now after number why t ended_as.Faulted so_far h shown appended wrote = absurd wrote
Ends-bad known left left' old new newer newest begun now after number why t (ended_as.NotOpened error) so_far h shown appended wrote = absurd wrote
Ends-bad known left left' old new newer newest begun now after number why t (ended_as.BadLine k told) so_far h shown appended (same, cause, wrote) =
    let written = Appends-nothing old new newer so_far.text t so_far.written appended shown.text in
    let whole = bad-known known left old new begun now after number why so_far h shown.same in
    (so_far.text ++ bad_line_answer number, Appends-trans old newer newest so_far.text (bad_line_answer number) written wrote, rw (same, cause) whole)
Ends-bad known left left' old new newer newest begun now after number why t ended_as.ReadFailed so_far h shown appended wrote = absurd wrote
Ends-bad known left left' old new newer newest begun now after number why t ended_as.ScriptTooLong so_far h shown appended wrote = absurd wrote
Ends-bad known left left' old new newer newest begun now after number why t ended_as.Untold so_far h shown appended wrote = absurd wrote
Ends-bad known left left' old new newer newest begun now after number why t ended_as.WriteFailed so_far h shown appended wrote =
    let written = Appends-nothing old new newer so_far.text t so_far.written appended shown.text in
    let whole = bad-known known left old new begun now after number why so_far h shown.same in
    (so_far.text ++ wrote.part, Appends-trans old newer newest so_far.text wrote.part written wrote.appended, broken-part known begun after so_far.text wrote.part wrote.rest (bad_line_answer number) (ended_as.BadLine number why) wrote.split whole)
Ends-bad known left left' old new newer newest begun now after number why t ended_as.NoMemory so_far h shown appended wrote =
    let written = Appends-nothing old new newer so_far.text t so_far.written appended shown.text in
    let whole = bad-known known left old new begun now after number why so_far h shown.same in
    (so_far.text ++ wrote.part, Appends-trans old newer newest so_far.text wrote.part written wrote.appended, broken-part known begun after so_far.text wrote.part wrote.rest (bad_line_answer number) (ended_as.BadLine number why) wrote.split whole)

-- ---- another end

-- what is written at any end breaks off at most
broken-whole : (known : Option (List ℕ)) (begun after : State) (text : List ℕ) (status : RunStatus) → IsAnswer begun known text status after → IfSome known (λ script. BreaksOff begun (lines_of script) text after)
broken-whole None begun after text status h = tt
broken-whole (Some script) begun after text status h = record {
  lines = lines_of script;
  others = [];
  rest = [];
  status = status;
  split = sym (append-nil (lines_of script));
  answer = rw (append-nil text) h;
}

broken-read : (known left : Option (List ℕ)) (begun after : State) (text : List ℕ) → ReadUpTo begun known left text after → IfSome known (λ script. BreaksOff begun (lines_of script) text after)
broken-read None left begun after text h = tt
broken-read (Some xs) None begun after text h = absurd h.read
broken-read (Some xs) (Some ys) begun after text h = record {
  lines = h.lines;
  others = lines_of (h.piece ++ ys);
  rest = [];
  status = status_at_end after.faulted;
  split = ap lines_of (h.read ∙ append_assoc (ended h.lines) h.piece ys) ∙ lines_of-front h.lines (h.piece ++ ys) h.each;
  answer = rw (append-nil text) h.answer;
}

pub Ends-broken : (known left : Option (List ℕ)) (begun after : State) (text : List ℕ) (status : RunStatus) → Ends begun known left text status after → IfSome known (λ script. BreaksOff begun (lines_of script) text after)
Ends-broken known left begun after text ended_as.Done h = broken-whole known begun after text ended_as.Done h.1
Ends-broken known left begun after text ended_as.Faulted h = broken-whole known begun after text ended_as.Faulted h.1
Ends-broken known left begun after text (ended_as.BadLine k told) h = broken-whole known begun after text (ended_as.BadLine k told) h
Ends-broken known left begun after text ended_as.ReadFailed h = broken-read known left begun after text h
Ends-broken known left begun after text ended_as.ScriptTooLong h = broken-read known left begun after text h
Ends-broken known left begun after text ended_as.WriteFailed h = h
Ends-broken known left begun after text ended_as.NoMemory h = h
Ends-broken known left begun after text ended_as.Untold h = h.0
Ends-broken known left begun after text (ended_as.NotOpened error) h = absurd h

-- an answer that is held back breaks off before its first byte
held_back : (left : Option (List ℕ)) (now after : State) (t : List ℕ) → t ≡ [] → BeginsWith left (λ line. (answer : List ℕ) × Answered now line answer after)
    → BeginsWith left (λ line. BeginsAnswer now line t after)
held_back None now after t none h = tt
held_back (Some bytes) now after t none (line, more, first, (answer, answered)) = rw none (line, more, first, inr (answer, answered))

-- a line's failure ends the run
pub Ends-stop : (known left ahead left' old new newer newest : Option (List ℕ)) (begun now after : State) (number : ℕ) (stop : Stop) (status : RunStatus) → Progress known left old new begun now number
    → Writes new newer (λ t. AnswersNext now left ahead left' t (Err stop) after) → StopsAt newer newest number stop status → Writes old newest (λ text. Ends begun known left' text status after)
Ends-stop known left ahead left' old new newer newest begun now after number (BadLine why) status so_far (t, appended, (bad, shown)) wrote =
    Ends-bad known left left' old new newer newest begun now after number why t status so_far bad shown appended wrote
Ends-stop known left ahead left' old new newer newest begun now after number ReadFailed status so_far (t, appended, (lost, shown)) (same, kept) =
    rw same (Ends-unread known left left' old new newest begun now after number t so_far lost shown (Appends-kept new newer newest t appended kept))
Ends-stop known left ahead left' old new newer newest begun now after number ScriptTooLong status so_far (t, appended, (lost, shown)) (same, kept) =
    rw same (Ends-unread known left left' old new newest begun now after number t so_far lost shown (Appends-kept new newer newest t appended kept))
Ends-stop known left ahead left' old new newer newest begun now after number WriteFailed status so_far (t, appended, h) (same, kept) =
    rw same (Breaks known left old new newest begun now after number t so_far h (Appends-kept new newer newest t appended kept))
Ends-stop known left ahead left' old new newer newest begun now after number NoMemory status so_far (t, appended, h) (same, kept) =
    rw same (Breaks known left old new newest begun now after number t so_far h (Appends-kept new newer newest t appended kept))
Ends-stop known left ahead left' old new newer newest begun now after number Untold status so_far (t, appended, (none, faulted, h)) (same, kept) =
    let broken = Breaks known left old new newest begun now after number t so_far (inr (held_back left now after t none h)) (Appends-kept new newer newest t appended kept) in
    rw same (broken.0, broken.1, (broken.2, faulted))

-- at the end what the writer keeps back is handed on, or that fails
pub Ends-finished : (known left old new newer : Option (List ℕ)) (begun after : State) (status result : RunStatus) → Writes old new (λ t. Ends begun known left t status after) → Keeps new newer
    → (result ≡ status) ⊎ (result ≡ ended_as.WriteFailed) → Writes old newer (λ t. Ends begun known left t result after)
Ends-finished known left old new newer begun after status result (t, appended, h) kept (inl same) = rw same (t, Appends-kept old new newer t appended kept, h)
Ends-finished known left old new newer begun after status result (t, appended, h) kept (inr failed) =
    rw failed (t, Appends-kept old new newer t appended kept, Ends-broken known left begun after t status h)

-- what a run begins with
pub Ends-begun : (known known' left old new : Option (List ℕ)) (begun begun' after : State) (status : RunStatus) → begun ≡ begun' → known ≡ known'
    → Writes old new (λ t. Ends begun known left t status after) → Writes old new (λ t. Ends begun' known' left t status after)
Ends-begun known known' left old new begun begun' after status same read (t, appended, h) =
    (t, appended, subst (λ k. Ends begun' k left t status after) read (subst (λ s. Ends s known left t status after) same h))

-- so does want of memory before the first line
nothing : (known : Option (List ℕ)) (begun : State) → IfSome known (λ script. BreaksOff begun (lines_of script) [] begun)
nothing None begun = tt
nothing (Some script) begun = record { lines = []; others = lines_of script; rest = []; status = status_at_end begun.faulted; split = refl; answer = (refl, refl, refl) }

pub Ends-nothing : (known left old : Option (List ℕ)) (begun : State) → Writes old old (λ text. Ends begun known left text ended_as.NoMemory begun)
Ends-nothing known left old begun = ([], Appends-nil old, nothing known begun)

-- a failed write isn't the script's end
pub unfinished : ReachesEnd ended_as.WriteFailed → ⊥
unfinished (inl e) = cc e
unfinished (inr e) = cc e
