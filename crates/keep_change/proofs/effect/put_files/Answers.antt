-- What was put is taken away again.
use Rattle.std.proofs.Common.{ap, ◌∙◌, take, [], ◌∷◌}
use Rattle.keep_repo.specs.Repository.{held}
use Rattle.keep_change.specs.Change.{added, is_as_written}
use Rattle.keep_change.proofs.Exchange.{files_back, files_put, files_put_more, files_taken, first_pass}
use Rattle.keep_change.proofs.effect.put_files.Goals as goal

pub returns-in-Err-clause-err : goal.returns-in-Err-clause-err
returns-in-Err-clause-err c =
    let before = take c.loop-place.place c.args.files.now in
    c.remove_files.ensures ∙ ap (files_taken before) (c.in-Err.ensures.err ∙ c.loop-place.invariant)
    ∙ files_back c.args.repo.now before (first_pass (is_as_written (held c.args.repo.now)) added c.loop-place.place c.args.files.now c.requires)

pub loop-place-preserved : goal.loop-place-preserved
loop-place-preserved c =
    c.in_default.ensures.ok ∙ ap (files_put (c.index-files-place.result ∷ [])) c.loop-place.invariant
    ∙ files_put_more c.args.repo.now c.args.files.now c.loop-place.place c.index-files-place.result c.loop-place-test.true c.index-files-place.is
