-- Each member may bring a sooner one.
use Rattle.std.proofs.Common.{sym, ap, ◌∙◌}
use Rattle.keep_journal.specs.Kept.{later}
use Rattle.keep_touch.specs.Finding.{first_toucher}
use Rattle.keep_touch.proofs.Searching.{among_more, among_none}
use Rattle.keep_touch.proofs.touch.Touch.first_of.Goals as goal

pub loop-member-init : goal.loop-member-init
loop-member-init g c = sym (among_none (later c.args.history.now.journal c.args.n))

pub loop-member-preserved : goal.loop-member-preserved
loop-member-preserved g c =
    c.sooner-first.ensures
    ∙ among_more g.M.Member.facet_of c.args.members.now c.loop-member.member-index c.member-item.result c.args.history.now.journal c.args.n
    c.loop-member.first c.first_toucher-toucher.result c.requires.numbered c.loop-member-test.true c.member-item.is c.loop-member.invariant
    (c.first_toucher-toucher.ensures ∙ ap (λ q. first_toucher q (later c.args.history.now.journal c.args.n)) c.facet.ensures)
