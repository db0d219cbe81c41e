use Rattle.std.proofs.Common.{◌∙◌, ap}
use Rattle.keep_journal.specs.declared.event.Entry.{Entry}
use Rattle.keep_pages.proofs.Turns.{formed_push}
use Rattle.keep_pages.proofs.sheet.Sheet.follow.Goals as goal

pub invariant_of-self-2 : goal.invariant_of-self-2
invariant_of-self-2 c =
    let same = ap (λ (e : Entry). e.event) c.in_ok-posting.ensures ∙ c.in_ok-copy_event.ensures in
    rw (c.push.ensures.posted, c.in_ok-reserve.ensures.same) (formed_push c.self.inside.history.journal _ c.in_ok-posting.posting.event c.self.invariant (rw same c.requires.own))
