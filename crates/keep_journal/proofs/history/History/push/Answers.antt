-- The event was noted where it belongs.
use Rattle.std.proofs.Common.{ap}
use Rattle.keep_journal.specs.History.{ComesNext}
use Rattle.keep_journal.specs.Journal.{Journal, Recorded}
use Rattle.keep_journal.specs.declared.event.Entry.{Entry}
use Rattle.keep_journal.proofs.Standings.{changes-standings, comes_next, reaches, IsUpToDate-push}
use Rattle.keep_journal.proofs.history.History.push.Goals as goal

pub note-requires-clause-reaches : goal.note-requires-clause-reaches
note-requires-clause-reaches c =
    let b = c.self.inside in
    let j : Journal = record { base = b.base; entries = b.entries.items } in
    let next = comes_next j c.posting.inside.entry c.args.self.now c.args.posting (ap (λ (r : Recorded). r.journal) c.self.view_is) c.posting.view_is c.requires.next in
    reaches j c.posting.inside.entry b.notices.items b.names.items b.standings.items b.final_number b.last_change c.self.invariant next

pub invariant_of-self : goal.invariant_of-self
invariant_of-self c =
    let b = c.self.inside in
    let j : Journal = record { base = b.base; entries = b.entries.items } in
    let next = comes_next j c.posting.inside.entry c.args.self.now c.args.posting (ap (λ (r : Recorded). r.journal) c.self.view_is) c.posting.view_is c.requires.next in
    rw (c.and-self-inside.ensures, c.push_reserved.ensures.items, c.of.ensures, c.note_names.ensures, c.posting.invariant, c.final_after-final_number.ensures, c.last_after-self-inside.ensures)
    (IsUpToDate-push j c.posting.inside.entry b.notices.items b.names.items b.standings.items _ b.final_number b.last_change c.self.invariant next c.note.ensures)

pub returns-clause-held : goal.returns-clause-held
returns-clause-held c =
    changes-standings (record { base = c.self.inside.base; entries = c.and-self-inside.result.items }) _ (invariant_of-self c).standings
