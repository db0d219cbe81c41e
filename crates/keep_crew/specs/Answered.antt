-- What a desk's answer says of what the pass has seen.
use Rattle.std.specs.Prelude.{◌≡◌, ℕ, Bool, true, List, [], ◌∷◌, ◌++◌, Option, Some, None, Result, Ok, Err, ◌⊎◌}
use mathlib.Core.List.{IsPrefix}
use Rattle.keep_journal.specs.declared.event.Event.{Event}
use Rattle.keep_hooks.specs.Guards.{Rule}
use Rattle.keep_ledger.specs.LedgerState.{LedgerState}
use Rattle.keep_ledger.specs.Reply.{Replies, about, told_of}
use Rattle.keep_ledger.specs.declared.reply.Refusal.{Refusal}
use Rattle.keep_ledger.specs.declared.reply.Refusal.TheVariants.{Memory, Unsettled}
use Rattle.keep_journal.specs.declared.request.Told.{Told}
use Rattle.keep_journal.specs.declared.request.Request.{Request}
use Rattle.keep_pages.specs.Histories.{state_of, IsHistory}
use Rattle.keep_register.specs.Asked.{WasAsked, is_in}
use Rattle.keep_register.specs.Known.{Known}
use Rattle.keep_crew.specs.declared.answers.DeskError.{DeskError}
use Rattle.keep_crew.specs.declared.answers.DeskError.TheVariants.{Late, Refused}

-- whether the event of the request is in
abbrev pub has_event : Result Told DeskError → Bool
has_event (Ok told) = true
has_event (Err (Late n)) = true
has_event (Err (Refused refusal)) = is_in (Err refusal)

-- the number of the change that a book's answer is about, where its event is in
abbrev pub number_in : Result Told Refusal → Option ℕ
number_in (Ok told) = Some told.number
number_in (Err (Unsettled n)) = Some n
number_in (Err refusal) = None

-- the request was asked after the events `on`, and these have been seen then: what the book's answer makes of them;
-- of an event that is late the pass has seen all that comes before it
abbrev pub Tells : List Rule → LedgerState → Request → Result Told DeskError → List Event → List Event → Type 0
Tells rules opening request (Ok told) on seen = WasAsked rules opening request (Ok told) on seen
Tells rules opening request (Err (Late n)) on seen = let b = state_of opening on in
    Replies b rules request (Ok (told_of b.events request)) × (n ≡ about b.events request) × (seen ≡ on)
Tells rules opening request (Err (Refused refusal)) on seen = WasAsked rules opening request (Err refusal) on seen

-- an event was late before: it is in, the last of a list that begins with all that was seen
pub record IsHeldUp (rules : List Rule) (opening : LedgerState) (seen : List Event) : Type 0 where
  pub front : List Event
  pub late : Event
  pub begins : IsPrefix seen (front ++ late ∷ [])
  pub history : IsHistory rules opening (front ++ late ∷ [])

-- the answer is the book's, after a list of events that begins with all that the pass had seen; or there was no memory
-- for an event that was late before, and nothing was asked
pub record IsAnswered (rules : List Rule) (opening : LedgerState) (request : Request) (before after : Known)
    (answer : Result Told DeskError) : Type 0 where
  pub on : List Event
  pub begins : IsPrefix before.seen on
  pub tells : Tells rules opening request answer on after.seen
      ⊎ ((answer ≡ Err (Refused Memory)) × (after.seen ≡ on) × IsHeldUp rules opening on)
