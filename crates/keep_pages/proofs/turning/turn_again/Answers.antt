use Rattle.std.proofs.Common.{sym}
use Rattle.keep_pages.proofs.turning.turn_again.Goals as goal

pub begin-requires-clause-once : goal.begin-requires-clause-once
begin-requires-clause-once c = (c.requires.can c.in-Some.change.now (sym (c.in-Some.ensures.exact c.requires.unfinal))).once

pub complete-requires-clause-once : goal.complete-requires-clause-once
complete-requires-clause-once c = (c.requires.can c.in-Some.change.now (sym (c.in-Some.ensures.exact c.requires.unfinal))).once

pub complete-requires-clause-begun : goal.complete-requires-clause-begun
complete-requires-clause-begun c = record {
  before = c.args.live.now;
  ready = (c.requires.can c.in-Some.change.now (sym (c.in-Some.ensures.exact c.requires.unfinal))).ready;
  begun = c.in_ok-begin.ensures.ok;
}
