-- What vetoes are asked and watches are told of a ledger's events.
use Rattle.std.specs.Prelude.{◌≡◌, ℕ, ◌<◌, [], List, length, Option, Some, None, Result, Ok, Err, unwrap_or, ◌⊎◌}
use Rattle.std.specs.Option.{option_map}
use Rattle.keep_change.specs.Outline.{empty_outline, outline_of}
use Rattle.keep_change.specs.declared.outline.Outline.{Outline}
use Rattle.keep_change.specs.declared.outline.What.{What}
use Rattle.keep_change.specs.declared.outline.What.TheVariants as what
use Rattle.keep_journal.specs.History.{change_of}
use Rattle.keep_journal.specs.Journal.{Journal}
use Rattle.keep_journal.specs.declared.event.Event.{Event}
use Rattle.keep_journal.specs.declared.event.EventKind.{EventKind}
use Rattle.keep_journal.specs.declared.event.EventKind.TheVariants as kind
use Rattle.keep_hooks.specs.Guards.{Rule, Tally, first_refusing}
use Rattle.keep_ledger.specs.LedgerState.{LedgerState}
use Rattle.keep_ledger.specs.Made.{event_of}
use Rattle.keep_journal.specs.declared.request.Request.{Request}
use Rattle.keep_journal.specs.declared.request.Request.TheVariants.{Commit, Undo, Redo, Empty}
use Rattle.keep_ledger.specs.declared.reply.Refusal.{Refusal}
use Rattle.keep_ledger.specs.declared.reply.Refusal.TheVariants.{Memory, Vetoed}

-- the outline of change n, taken back or made again; one without names where there is no such change
abbrev pub outline_at : Journal → What → ℕ → Outline
outline_at j what n = unwrap_or (option_map (outline_of what n) (change_of j n)) (empty_outline n)

-- the outline of an event, by the changes that the history has
abbrev pub outline_by : Journal → ℕ → EventKind → Outline
outline_by j n (kind.Commit c) = outline_of what.Commit n c
outline_by j n kind.Undo = outline_at j what.Undo n
outline_by j n kind.Redo = outline_at j what.Redo n
outline_by j n (kind.Empty marks) = empty_outline n

abbrev pub outline_in : Journal → Event → Outline
outline_in j e = outline_by j e.number e.kind

-- that of the event that a request makes
abbrev pub event_outline : LedgerState → Request → Outline
event_outline b request = outline_in b.events (event_of b request)

-- the rules that may refuse the event of a request: an undo isn't theirs to refuse
abbrev pub rules_for : List Rule → Request → List Rule
rules_for rules (Commit p) = rules
rules_for rules (Undo n) = []
rules_for rules (Redo n) = rules
rules_for rules (Empty n) = rules

-- what the vetoes say of the event: the first that refuses it does so; where there are any, memory may run out
abbrev pub Vetoes : List Rule → Outline → Result (Unit {0}) Refusal → Type 0
Vetoes rules o (Ok _) = first_refusing rules o ≡ None
Vetoes rules o (Err refusal) =
    (option_map Vetoed (first_refusing rules o) ≡ Some refusal) ⊎ ((0 < length rules) × (refusal ≡ Memory))

-- the outline of an event, made where there is a veto or a watch
abbrev pub IsOutline : List Rule → List Tally → Outline → Option Outline → Type 0
IsOutline rules tallies o None = (rules ≡ []) × (tallies ≡ [])
IsOutline rules tallies o (Some made) = made ≡ o
