use Rattle.std.proofs.Common.{Err, ap, ◌∙◌}
use Rattle.std.proofs.lemmas.Result.{err_from_is_err_and}
use Rattle.keep_answers.proofs.KnownLemmas.{AppendsPart-none, Puts-none, WritesLines-none}
use Rattle.keep_answers.proofs.answer_lists.write_restored_file.Goals as goal

pub returns-in_err-hex-clause-puts : goal.returns-in_err-hex-clause-puts
returns-in_err-hex-clause-puts g c =
    let passed = err_from_is_err_and c.from_residual.result c.from_residual.ensures.1 in
    Puts-none _ _ _ _ (passed.1 ∙ ap Err passed.2) (AppendsPart-none _ _)

pub returns-in_err-hex-clause-whole : goal.returns-in_err-hex-clause-whole
returns-in_err-hex-clause-whole g c = λ failed. WritesLines-none _
