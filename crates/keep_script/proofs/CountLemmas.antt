-- How many bytes may still come, beside how many are left.
use Rattle.std.proofs.Common.{◌≡◌, ℕ, ◌+◌, ◌<◌, ◌≤◌, Bool, true, false, List, [], ◌∷◌, ◌++◌, Option, Some, None, IfSome, inl, inr, length, refl, sym, ap, ◌∙◌, arith}
use Rattle.std.proofs.lemmas.List.{length-append}
use Rattle.std.specs.Io.KnownBytes.{Consumes, IsAtEnd}
use Rattle.keep_script.specs.Input.{Counted, Takes, size_of}
use Rattle.keep_script.specs.declared.input.Piece.{Piece}
use Rattle.keep_script.specs.declared.input.Piece.TheVariants.{Line, Last}
use Rattle.keep_script.specs.Line.{longest_script}
use Rattle.keep_script.specs.Run.{StopsAt}
use Rattle.keep_script.specs.Status.{ReachesEnd, status_at_end}
use Rattle.keep_script.specs.declared.status.RunStatus.{RunStatus}
use Rattle.keep_script.specs.declared.status.RunStatus.TheVariants as ended_as
use Rattle.keep_script.specs.declared.status.Stop.{Stop}
use Rattle.keep_script.specs.declared.status.Stop.TheVariants.{BadLine, ReadFailed, ScriptTooLong, WriteFailed, NoMemory, Untold}

-- bytes that were taken are counted
Counted-taken : (a b : Option (List ℕ)) (before after : ℕ) (bytes : List ℕ) → Consumes a b bytes → after + length bytes ≡ before → Counted a before b after
Counted-taken None b before after bytes taken less = tt
Counted-taken (Some xs) None before after bytes taken less = absurd taken
Counted-taken (Some xs) (Some ys) before after bytes taken less =
    let size = ap length taken ∙ length-append bytes ys in
    omega (arith, size, less)

pub Counted-piece : (a b : Option (List ℕ)) (before after : ℕ) (piece : Piece) → Takes a b piece → after + size_of piece ≡ before → Counted a before b after
Counted-piece a b before after (Line line) taken less =
    let size = length-append line.items (10 ∷ []) in
    Counted-taken a b before after (line.items ++ 10 ∷ []) taken.1 (omega (arith, size, less))
Counted-piece a b before after (Last line) taken less = Counted-taken a b before after line.items taken.1 (omega (arith, less))

pub Counted-none : (a : Option (List ℕ)) (n : ℕ) → Counted a n a n
Counted-none None n = tt
Counted-none (Some xs) n = omega arith

pub Counted-more : (a b c : Option (List ℕ)) (first then last : ℕ) (bytes : List ℕ) → Consumes a b bytes → Counted a first b then → Counted b then c last → Counted a first c last
Counted-more None b c first then last bytes taken h k = tt
Counted-more (Some xs) None c first then last bytes taken h k = absurd taken
Counted-more (Some xs) (Some ys) None first then last bytes taken h k = tt
Counted-more (Some xs) (Some ys) (Some zs) first then last bytes taken h k = omega (arith, h, k)

-- a script that was read whole is short enough
pub Counted-whole : (a b c : Option (List ℕ)) (first then last : ℕ) (bytes more : List ℕ) → Consumes a b bytes → Consumes b c more → Counted a first b then → Counted b then c last → IsAtEnd c → 0 < last → first ≤ longest_script
    → IfSome a (λ script. length script < longest_script)
Counted-whole None b c first then last bytes more taken next h k end left low = tt
Counted-whole (Some xs) None c first then last bytes more taken next h k end left low = absurd taken
Counted-whole (Some xs) (Some ys) None first then last bytes more taken next h k end left low = absurd next
Counted-whole (Some xs) (Some ys) (Some zs) first then last bytes more taken next h k end left low =
    let none = ap length end in
    omega (arith, h, k, none, left, low)

-- where as many bytes are left as can still come, it was so at first
pub Counted-long : (a b : Option (List ℕ)) (first then : ℕ) (bytes : List ℕ) → Consumes a b bytes → Counted a first b then → IfSome b (λ left. then ≤ length left)
    → IfSome a (λ script. first ≤ length script)
Counted-long None b first then bytes taken h many = tt
Counted-long (Some xs) None first then bytes taken h many = absurd taken
Counted-long (Some xs) (Some ys) first then bytes taken h many = omega (arith, h, many)

-- a run that stops ends so for one cause
pub StopsAt-long : (a b : Option (List ℕ)) (number : ℕ) (stop : Stop) → StopsAt a b number stop ended_as.ScriptTooLong → stop ≡ ScriptTooLong
StopsAt-long a b number (BadLine why) h = absurd h
StopsAt-long a b number ReadFailed h = cc h.0
StopsAt-long a b number ScriptTooLong h = refl
StopsAt-long a b number WriteFailed h = cc h.0
StopsAt-long a b number NoMemory h = cc h.0
StopsAt-long a b number Untold h = cc h.0

-- a failed write ends it as one
pub StopsAt-write : (a b : Option (List ℕ)) (number : ℕ) (stop : Stop) (status : RunStatus) → StopsAt a b number stop status → stop ≡ WriteFailed → status ≡ ended_as.WriteFailed
StopsAt-write a b number (BadLine why) status h e = cc e
StopsAt-write a b number ReadFailed status h e = cc e
StopsAt-write a b number ScriptTooLong status h e = cc e
StopsAt-write a b number WriteFailed status h e = h.0
StopsAt-write a b number NoMemory status h e = cc e
StopsAt-write a b number Untold status h e = cc e

-- a run that stops doesn't reach the script's end
pub StopsAt-end : (a b : Option (List ℕ)) (number : ℕ) (stop : Stop) (status : RunStatus) → StopsAt a b number stop status → ReachesEnd status → ⊥
StopsAt-end a b number (BadLine why) status h (inl done) = rw done at h
StopsAt-end a b number (BadLine why) status h (inr faulted) = rw faulted at h
StopsAt-end a b number ReadFailed status h end = elim end [ inl done ↦ cc (sym done ∙ h.0) | inr faulted ↦ cc (sym faulted ∙ h.0) ]
StopsAt-end a b number ScriptTooLong status h end = elim end [ inl done ↦ cc (sym done ∙ h.0) | inr faulted ↦ cc (sym faulted ∙ h.0) ]
StopsAt-end a b number WriteFailed status h end = elim end [ inl done ↦ cc (sym done ∙ h.0) | inr faulted ↦ cc (sym faulted ∙ h.0) ]
StopsAt-end a b number NoMemory status h end = elim end [ inl done ↦ cc (sym done ∙ h.0) | inr faulted ↦ cc (sym faulted ∙ h.0) ]
StopsAt-end a b number Untold status h end = elim end [ inl done ↦ cc (sym done ∙ h.0) | inr faulted ↦ cc (sym faulted ∙ h.0) ]

-- nor is one that does for another cause
pub at_end-long : (faulted : Bool) → status_at_end faulted ≡ ended_as.ScriptTooLong → ⊥
at_end-long true e = cc e
at_end-long false e = cc e
