-- What was put is taken away again.
use Rattle.std.proofs.Common.{ap, ◌∙◌, take, get_or, [], ◌∷◌}
use Rattle.keep_repo.specs.Repository.{held}
use Rattle.keep_change.specs.Change.{set, is_as_written}
use Rattle.keep_change.proofs.Exchange.{first_pass, marks_back, marks_put, marks_put_more, marks_taken}
use Rattle.keep_change.proofs.effect.put_marks.Goals as goal

pub returns-in-Err-clause-err : goal.returns-in-Err-clause-err
returns-in-Err-clause-err c =
    let before = take c.loop-place.place c.args.marks.now in
    c.remove_marks.ensures ∙ ap (marks_taken before) (c.in-Err.ensures.err ∙ c.loop-place.invariant)
    ∙ marks_back c.args.repo.now before (first_pass (is_as_written (held c.args.repo.now)) set c.loop-place.place c.args.marks.now c.requires)

pub loop-place-preserved : goal.loop-place-preserved
loop-place-preserved c =
    c.in_default.ensures.ok ∙ ap (marks_put (get_or c.args.marks.now c.loop-place.place _ ∷ [])) c.loop-place.invariant
    ∙ marks_put_more c.args.repo.now c.args.marks.now c.loop-place.place _ c.loop-place-test.true
