-- What a desk tells of a change that is taken back with what leans on it.
use Rattle.std.specs.Prelude.{◌≡◌, ℕ, List, [], ◌∷◌, ◌++◌, map, Option, Some, ◌⊎◌}
use Rattle.std.specs.Option.{option_map}
use mathlib.Core.List.{IsPrefix}
use Rattle.keep_journal.specs.Event.{undoing}
use Rattle.keep_journal.specs.declared.event.Event.{Event}
use Rattle.keep_hooks.specs.Guards.{Rule}
use Rattle.keep_ledger.specs.LedgerState.{LedgerState}
use Rattle.keep_ledger.specs.declared.reply.Refusal.{Refusal}
use Rattle.keep_ledger.specs.declared.reply.Refusal.TheVariants.{Memory, Unsettled}
use Rattle.keep_book.specs.Cascade.{AreUndone, TakesAlong}
use Rattle.keep_pages.specs.Histories.{state_of}
use Rattle.keep_register.specs.Known.{Known}
use Rattle.keep_crew.specs.Answered.{IsHeldUp}
use Rattle.keep_crew.specs.declared.answers.DeskError.{DeskError}
use Rattle.keep_crew.specs.declared.answers.DeskError.TheVariants.{Late, Refused}
use Rattle.keep_desk.specs.declared.taken_back.TakenBack.{TakenBack}

-- the book's word for why a desk stops: the undo of a late change is in, as that of an unsettled one is
abbrev pub refusal_of : DeskError → Refusal
refusal_of (Late m) = Unsettled m
refusal_of (Refused refusal) = refusal

-- right behind the events `on` the undos of these changes are seen, in their order, and nothing else; but for a last
-- one that is late
abbrev pub Sees : List Event → List ℕ → Option DeskError → List Event → Type 0
Sees on numbers (Some (Late m)) seen = (front : List ℕ) × (numbers ≡ front ++ m ∷ []) × (seen ≡ on ++ map undoing front)
Sees on numbers stopped seen = seen ≡ on ++ map undoing numbers

-- after the events `on` change n is taken back with what leans on it, as far as the answer tells: each undo is one that
-- the book accepts, and those that are published are seen
pub record GoesDown (opening : LedgerState) (n : ℕ) (on : List Event) (numbers : List ℕ) (stopped : Option DeskError)
    (seen : List Event) : Type 0 where
  pub along : TakesAlong (state_of opening on).events n numbers (option_map refusal_of stopped)
  pub accepted : AreUndone (state_of opening on) numbers
  pub sees : Sees on numbers stopped seen

-- there was no memory for an event that was late before, and nothing was asked
abbrev pub WasHeldUp : List Rule → LedgerState → List Event → List ℕ → Option DeskError → List Event → Type 0
WasHeldUp rules opening on numbers stopped seen =
    (numbers ≡ []) × (stopped ≡ Some (Refused Memory)) × (seen ≡ on) × IsHeldUp rules opening on

-- one or the other, after a list of events that begins with all that the pass had seen
pub record IsTakenBack (rules : List Rule) (opening : LedgerState) (n : ℕ) (before after : Known) (back : TakenBack) : Type 0 where
  pub on : List Event
  pub begins : IsPrefix before.seen on
  pub tells : GoesDown opening n on back.numbers.items back.stopped after.seen
      ⊎ WasHeldUp rules opening on back.numbers.items back.stopped after.seen
