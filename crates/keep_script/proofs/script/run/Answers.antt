use Rattle.std.proofs.Common.{subst}
use Rattle.keep_jobs.specs.Job.{settings_view}
use Rattle.keep_jobs.specs.Kits.{kit_view}
use Rattle.keep_book.specs.Armed.{on_shelf}
use Rattle.keep_answers.specs.State.{State}
use Rattle.keep_script.proofs.OpeningLemmas.{begun_by}
use Rattle.keep_script.specs.Run.{Ends}
use Rattle.keep_script.proofs.script.run.Goals as goal

pub returns-clause-answers : goal.returns-clause-answers
returns-clause-answers g c =
    let h = c.run_on-status.ensures.answers in
    let settings = settings_view c.args.setup.settings in
    let kit = kit_view c.args.kit.now in
    let known = g.R.Read.remaining c.args.reader.now in
    let left = g.R.Read.remaining c.run_on-status.new.reader in
    let start = begun_by settings kit c.in_ok-book.book c.in_ok-book.ensures.hooks in (
      h.0,
      h.1,
      (
        h.2.0,
        h.2.1,
        h.2.2,
        (
          on_shelf c.in_ok-book.book,
          c.in_ok-book.ensures.opened,
          subst (λ (s : State). Ends s known left h.0 c.run_on-status.result h.2.0) start h.2.3,
        ),
      ),
    )
