use Rattle.std.proofs.Common.{inl, inr}
use Rattle.keep_command.proofs.EndingLemmas.{keeps-idle}
use Rattle.keep_command.proofs.UntouchedLemmas.{nothing-done}
use Rattle.keep_command.proofs.serving.serve.Goals as goal

pub returns-in-Ok-clause-ends : goal.returns-in-Ok-clause-ends
returns-in-Ok-clause-ends g c = inl (c.in-Ok.shelf, c.in-Ok.ensures, c.serve_on.ensures.ends)

pub returns-in-Ok-clause-lines : goal.returns-in-Ok-clause-lines
returns-in-Ok-clause-lines g c = c.serve_on.ensures.lines

pub returns-in-Err-clause-ends : goal.returns-in-Err-clause-ends
returns-in-Err-clause-ends g c = inr (
  record { error = c.in-Err.error; refused = c.in-Err.ensures; told = c.from.ensures },
  nothing-done (g.R.Read.remaining c.args.reader.now) (g.W.Write.contents c.args.writer.now),
)

pub returns-in-Err-clause-lines : goal.returns-in-Err-clause-lines
returns-in-Err-clause-lines g c =
    keeps-idle (g.R.Read.remaining c.args.reader.now) (g.W.Write.contents c.args.writer.now) c.in-Err.error c.from.result c.from.ensures
