use Rattle.std.proofs.Common.{refl}
use Rattle.keep_answers.proofs.RestoreLemmas.{Puts-counts}
use Rattle.keep_answers.proofs.answer_lists.write_counts.Goals as goal

pub returns-clause-puts : goal.returns-clause-puts
returns-clause-puts g c =
    Puts-counts c.args.restored.now.files.entries c.len.ensures.ordered _ _ c.args.restored.now.skipped c.len.result _ _ c.len.ensures.len refl c.put_line.ensures.puts
