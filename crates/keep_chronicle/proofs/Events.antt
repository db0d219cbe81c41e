-- The events of notes, and the last of a journal.
use Rattle.std.proofs.Common.{◌≡◌, ℕ, List, [], ◌∷◌, ◌++◌, fold, refl, ap, sym, ◌∙◌, append_assoc}
use Rattle.std.proofs.lemmas.List.{append-nil}
use mathlib.Core.List.{IsPrefix}
use Rattle.keep_journal.specs.Journal.{Journal, posted}
use Rattle.keep_journal.specs.declared.event.Entry.{Entry}
use Rattle.keep_journal.specs.declared.event.Event.{Event}
use Rattle.keep_chronicle.specs.Chronicle.{events_of, last_events}
use Rattle.keep_chronicle.specs.declared.note.Note.{Note}

pub events_of-append : (ms ns : List Note) → events_of (ms ++ ns) ≡ events_of ms ++ events_of ns
events_of-append [] ns = refl
events_of-append (m ∷ ms) ns =
    ap (λ es. m.events ++ es) (events_of-append ms ns) ∙ sym (append_assoc m.events (events_of ms) (events_of ns))

-- one more note adds its events
pub events_of-push : (ns : List Note) (n : Note) → events_of (ns ++ n ∷ []) ≡ events_of ns ++ n.events
events_of-push [] n = append-nil n.events
events_of-push (m ∷ ms) n =
    ap (λ es. m.events ++ es) (events_of-push ms n) ∙ sym (append_assoc m.events (events_of ms) n.events)

-- what notes begin with, their events begin with
pub events_begin : (ms ns : List Note) → IsPrefix ms ns → IsPrefix (events_of ms) (events_of ns)
events_begin ms ns p = (events_of p.0, sym (events_of-append ms p.0) ∙ ap events_of p.1)

last_of : (before : List Event) (es : List Entry) (e : Entry)
    → fold (λ (_ : List Event) (x : Entry). x.event ∷ []) before (es ++ e ∷ []) ≡ e.event ∷ []
last_of before [] e = refl
last_of before (x ∷ es) e = last_of (x.event ∷ []) es e

-- the last event of a journal with one more event is that one
pub last_events-posted : (j : Journal) (at : ℕ) (event : Event) → last_events (posted j at event) ≡ event ∷ []
last_events-posted j at event = last_of [] j.entries (record { at = at; event = event })
