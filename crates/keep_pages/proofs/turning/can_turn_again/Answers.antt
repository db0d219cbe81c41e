use Rattle.std.proofs.Common.{sym}
use Rattle.keep_pages.proofs.Turns.{turns_again}
use Rattle.keep_pages.proofs.turning.can_turn_again.Goals as goal

pub returns-in-Some : goal.returns-in-Some
returns-in-Some c =
    turns_again c.args.history.now.journal c.args.n c.args.turn c.args.repo.now c.in-Some.change.now c.is_ready.result
    c.requires.formed (sym (c.in-Some.ensures.exact c.requires.unfinal)) c.is_ready.ensures
