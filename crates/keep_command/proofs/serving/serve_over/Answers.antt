use Rattle.keep_book.specs.Armed.{hooks_of, on_shelf}
use Rattle.keep_jobs.specs.Job.{settings_view}
use Rattle.keep_options.specs.Option.{options_view}
use Rattle.keep_command.proofs.ServingLemmas.{keeps-followed, serves-run}
use Rattle.keep_command.specs.Stored.{stored_view}
use Rattle.keep_command.proofs.serving.serve_over.Goals as goal

pub returns-clause-serves : goal.returns-clause-serves
returns-clause-serves g c =
    serves-run (g.H.Shelves.takes c.args.shelves.now) (g.C.Crew.answers c.args.crew.now) (stored_view c.args.stored) _ (settings_view c.setup.result.settings)
    (options_view c.args.terms.options) c.args.book c.run_on-status.new.book (g.R.Read.remaining c.args.reader.now) (g.R.Read.remaining c.run_on-status.new.reader)
    (g.W.Write.contents c.args.writer.now) (g.W.Write.contents c.run_on-status.new.writer) (g.W.Write.contents c.follow.new.writer)
    c.run_on-status.result c.follow.result c.setup.ensures c.run_on-status.ensures.answers c.follow.ensures.follows

pub returns-clause-lines : goal.returns-clause-lines
returns-clause-lines g c =
    let book = c.run_on-status.new.book in
    keeps-followed (g.H.Shelves.takes c.args.shelves.now) (g.C.Crew.answers c.args.crew.now) (options_view c.args.terms.options)
    (on_shelf book) (hooks_of book) (g.R.Read.remaining c.args.reader.now) (g.W.Write.contents c.args.writer.now)
    (g.W.Write.contents c.run_on-status.new.writer) (g.W.Write.contents c.follow.new.writer) c.run_on-status.result c.follow.result
    c.run_on-status.ensures.whole c.run_on-status.ensures.past_limit c.follow.ensures.follows c.follow.ensures.whole
