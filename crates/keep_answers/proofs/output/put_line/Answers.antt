use Rattle.std.proofs.Common.{Err, IfSome, rules, ap, ◌∙◌}
use Rattle.std.proofs.lemmas.Result.{err_from_is_err_and}
use Rattle.keep_answers.proofs.KnownLemmas.{Puts-unmade, WritesLines-made, WritesLines-unmade}
use Rattle.keep_answers.specs.Known.{Puts}
use Rattle.keep_answers.specs.Known.{line}
use Rattle.keep_answers.proofs.output.put_line.Goals as goal

pub returns-in_err-text-clause-puts : goal.returns-in_err-text-clause-puts
returns-in_err-text-clause-puts g c =
    let passed = err_from_is_err_and c.from_residual.result c.from_residual.ensures.1 in
    Puts-unmade _ _ _ (passed.1 ∙ ap Err passed.2)

pub returns-in_err-text-clause-whole : goal.returns-in_err-text-clause-whole
returns-in_err-text-clause-whole g c = WritesLines-unmade _ _ _

pub returns-clause-whole : goal.returns-clause-whole
returns-clause-whole g c =
    let puts : IfSome (g.T.Display.output c.args.answer.now) (λ text. Puts (g.W.Write.contents c.args.writer.now) (g.W.Write.contents c.put.new.writer) (line text) c.put.result) = search rules in
    WritesLines-made _ _ _ _ puts c.put.ensures.reason
