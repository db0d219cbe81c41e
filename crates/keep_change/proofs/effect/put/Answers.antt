-- Marks stand apart from files, and what was put is taken away again.
use Rattle.std.proofs.Common.{ap, ◌∙◌, map}
use Rattle.std.specs.List.{list_all}
use Rattle.keep_repo.specs.Repository.{Repository, held}
use Rattle.keep_change.specs.Change.{is_as_written, set}
use Rattle.keep_change.proofs.Exchange.{files_back, files_taken, marks_apart}
use Rattle.keep_change.proofs.effect.put.Goals as goal

pub put_marks-requires : goal.put_marks-requires
put_marks-requires c =
    ap (λ (r : Repository). list_all (is_as_written (held r)) (map set c.args.marks.now)) c.in_ok-put_files.ensures.ok
    ∙ marks_apart c.args.repo.now c.args.files.now c.args.marks.now ∙ c.requires.marks

pub returns-in-Err-clause-err : goal.returns-in-Err-clause-err
returns-in-Err-clause-err c =
    c.remove_files.ensures ∙ ap (files_taken c.args.files.now) (c.in-Err.ensures.err ∙ c.in_ok-put_files.ensures.ok)
    ∙ files_back c.args.repo.now c.args.files.now c.requires.files
