-- The last event is told last.
use Rattle.std.proofs.Common.{◌-◌, ◌+◌, ◌≡◌, length, ap, sym, ◌∙◌, arith}
use Rattle.std.proofs.lemmas.List.{length-map}
use Rattle.std.proofs.lemmas.Option.{slice_get_within}
use Rattle.std.specs.List.{slice_get}
use Rattle.std.specs.Option.{option_copied}
use Rattle.keep_journal.specs.Event.{notice_of}
use Rattle.keep_journal.proofs.Standings.{last_told}
use Rattle.keep_journal.proofs.history.History.length.Goals as goal

pub returns-in-Some : goal.returns-in-Some
returns-in-Some c =
    let es = c.self.inside.entries.items in
    let told = c.deref.ensures.value ∙ c.self.invariant.notices in
    let count = ap length told ∙ length-map es notice_of in
    let last = sym (ap option_copied c.in-Some.is) ∙ c.last.ensures.value in
    let within = slice_get_within c.deref.result.now (length c.deref.result.now - 1) c.in-Some.notice.now (sym last) in
    let number : length c.deref.result.now - 1 + 1 ≡ length es = omega (arith, within, count) in
    rw (← c.self.view_is)
    (last_told es 0 (length c.deref.result.now - 1) c.in-Some.notice.now number (last ∙ ap (λ ns. slice_get ns (length c.deref.result.now - 1)) told))
