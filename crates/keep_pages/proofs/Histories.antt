-- Lists of accepted events, and one more at their end.
use Rattle.std.proofs.Common.{◌≡◌, ◌+◌, List, [], ◌∷◌, ◌++◌, length, refl, arith}
use Rattle.std.proofs.lemmas.List.Sums.{fold_push}
use Rattle.keep_journal.specs.History.{length_of}
use Rattle.keep_journal.specs.declared.event.Event.{Event}
use Rattle.keep_journal.proofs.Commits.{length_of-push}
use Rattle.keep_hooks.specs.Guards.{Rule}
use Rattle.keep_ledger.specs.LedgerState.{LedgerState}
use Rattle.keep_ledger.specs.Made.{event_of, with_event}
use Rattle.keep_journal.specs.declared.request.Request.{Request}
use Rattle.keep_journal.specs.declared.request.Request.TheVariants.{Commit, Undo, Redo, Empty}
use Rattle.keep_pages.specs.Histories.{length_at, state_of, state_with, IsAccepted, IsLegal}

-- an accepted request leaves what its event leaves
pub with_event-is : (b : LedgerState) (request : Request) → with_event b request ≡ state_with b (event_of b request)
with_event-is b (Commit p) = refl
with_event-is b (Undo n) = refl
with_event-is b (Redo n) = refl
with_event-is b (Empty n) = refl

pub state_of-push : (b : LedgerState) (es : List Event) (e : Event) → state_of b (es ++ e ∷ []) ≡ state_with (state_of b es) e
state_of-push b es e = fold_push state_with b es e

pub legal-push : (rules : List Rule) (b : LedgerState) (es : List Event) (e : Event) → IsLegal rules b es
    → IsAccepted rules (state_of b es) e → IsLegal rules b (es ++ e ∷ [])
legal-push rules b [] e legal accepted = (accepted, tt)
legal-push rules b (x ∷ es) e legal accepted = (legal.0, legal-push rules (state_with b x) es e legal.1 accepted)

-- the events before the last are legal, and the last is accepted after them
pub legal-last : (rules : List Rule) (b : LedgerState) (es : List Event) (e : Event) → IsLegal rules b (es ++ e ∷ [])
    → IsLegal rules b es × IsAccepted rules (state_of b es) e
legal-last rules b [] e legal = (tt, legal.0)
legal-last rules b (x ∷ es) e legal =
    let rest = legal-last rules (state_with b x) es e legal.1 in
    ((legal.0, rest.0), rest.1)

pub length_at-all : (b : LedgerState) (es : List Event) → length_at b es ≡ length_of b.events + length es
length_at-all b [] = omega arith
length_at-all b (e ∷ es) =
    let one = length_of-push b.events (length_of b.events + 1) e in
    let rest = length_at-all (state_with b e) es in
    omega (arith, one, rest)
