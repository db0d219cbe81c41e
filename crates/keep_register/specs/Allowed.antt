-- Which changes may be committed at a desk.
use Rattle.std.specs.Prelude.{List, [], ◌∷◌, ◌++◌}
use mathlib.Core.List.{IsPrefix}
use Rattle.keep_change.specs.declared.change.Planned.{Planned}
use Rattle.keep_hooks.specs.Guards.{Rule}
use Rattle.keep_journal.specs.declared.event.Event.{Event}
use Rattle.keep_journal.specs.declared.request.Request.{Request}
use Rattle.keep_journal.specs.declared.request.Request.TheVariants.{Commit, Undo, Redo, Empty}
use Rattle.keep_ledger.specs.LedgerState.{LedgerState}
use Rattle.keep_pages.specs.Histories.{state_of, IsAccepted}

-- who has seen just these events may ask for this: to commit a change that is allowed then; to undo, redo and empty
-- anybody may ask
abbrev pub MayAsk : (allows : List Event → Planned → Type 0) → List Event → Request → Type 0
MayAsk allows seen (Commit planned) = allows seen planned
MayAsk allows seen (Undo n) = Unit {0}
MayAsk allows seen (Redo n) = Unit {0}
MayAsk allows seen (Empty n) = Unit {0}

-- the request may come after these events: who asks for it has seen a beginning of them, and may
abbrev pub MayFollow : (allows : List Event → Planned → Type 0) → List Event → Request → Type 0
MayFollow allows on request = (seen : List Event) × IsPrefix seen on × MayAsk allows seen request

-- the event is in after these: it is that of some request which is accepted, and which may come there
pub record IsAllowed (allows : List Event → Planned → Type 0) (rules : List Rule) (opening : LedgerState)
    (on : List Event) (e : Event) : Type 0 where
  pub accepted : IsAccepted rules (state_of opening on) e
  pub may : MayFollow allows on accepted.request

-- so is each of these, after those and the ones before it
abbrev pub AreAllowed : (allows : List Event → Planned → Type 0) → List Rule → LedgerState → List Event → List Event → Type 0
AreAllowed allows rules opening on [] = Unit {0}
AreAllowed allows rules opening on (e ∷ es) =
    IsAllowed allows rules opening on e × AreAllowed allows rules opening (on ++ e ∷ []) es

-- each change may be committed, whatever was seen
abbrev pub AllowsAll : (allows : List Event → Planned → Type 0) → Type 0
AllowsAll allows = (seen : List Event) (planned : Planned) → allows seen planned
