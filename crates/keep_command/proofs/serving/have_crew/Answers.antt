use Rattle.std.proofs.Common.{◌≡◌, IfErr, IfOk, Result, ap, arith, subst}
use Rattle.keep_answers.proofs.KnownLemmas.{WritesLines-none}
use Rattle.keep_book.specs.Armed.{hooks_of, ledger_of, on_shelf}
use Rattle.keep_jobs.specs.Job.{settings_view}
use Rattle.keep_operators.specs.Crewed.{IsCrewed}
use Rattle.keep_operators.specs.declared.order.NoCrew.{NoCrew}
use Rattle.keep_operators.specs.declared.order.CrewTally.{CrewTally}
use Rattle.keep_options.specs.Option.{options_view}
use Rattle.keep_command.proofs.CrewLemmas.{crews-uncrewed, crews-worked}
use Rattle.keep_command.specs.Running.{settings_of}
use Rattle.keep_command.proofs.serving.have_crew.Goals as goal

pub work-left-requires : goal.work-left-requires
work-left-requires g c = record {
  sums = c.requires.sums;
  some = let e = c.order.ensures.size in let low = c.requires.one in omega arith;
  most = c.order.ensures.few;
}

pub returns-in-Ok-clause-crews : goal.returns-in-Ok-clause-crews
returns-in-Ok-clause-crews g c =
    let options = options_view c.args.terms.options in
    let takes = g.H.Shelves.takes c.args.shelves.now in
    let answers = g.C.Crew.answers c.args.crew.now in
    let after = on_shelf c.work-left.result.0 in
    let crewed = subst
    (λ (worked : Result CrewTally NoCrew). IfOk worked (λ tally. IsCrewed (hooks_of c.args.book).vetoes (settings_view c.order.result.settings)
    c.order.result.time.now c.order.result.size (ledger_of c.args.book) after.state tally.accepted tally.length)) c.in-Ok.is c.work-left.ensures.crewed in
    crews-worked takes answers (settings_view c.order.result.settings) (settings_of options) c.order.result.time.now options.time
    c.order.result.size options.crew (on_shelf c.args.book) after (hooks_of c.args.book) (hooks_of c.work-left.result.0) c.in-Ok.tally
    (g.W.Write.contents c.args.writer.now) (g.W.Write.contents c.report_crew.new.writer) c.report_crew.result
    c.order.ensures.settings c.order.ensures.time c.order.ensures.size c.work-left.ensures.hooks
    (subst answers c.in-Ok.is c.work-left.ensures.answered) crewed c.leave.ensures c.report_crew.ensures.tells

pub returns-in-Ok-clause-whole : goal.returns-in-Ok-clause-whole
returns-in-Ok-clause-whole g c = c.report_crew.ensures.whole

pub returns-in-Err-clause-crews : goal.returns-in-Err-clause-crews
returns-in-Err-clause-crews g c =
    let options = options_view c.args.terms.options in
    let takes = g.H.Shelves.takes c.args.shelves.now in
    let answers = g.C.Crew.answers c.args.crew.now in
    let same = subst (λ (worked : Result CrewTally NoCrew). IfErr worked (λ _. c.work-left.result.0 ≡ c.args.book)) c.in-Err.is c.work-left.ensures.handed in
    crews-uncrewed takes answers (settings_of options) options.time options.crew
    (on_shelf c.args.book) (on_shelf c.work-left.result.0) (hooks_of c.args.book) (hooks_of c.work-left.result.0)
    (g.W.Write.contents c.args.writer.now) c.in-Err.refusal c.from.result (ap on_shelf same) c.work-left.ensures.hooks
    (subst answers c.in-Err.is c.work-left.ensures.answered) c.leave.ensures c.from.ensures

pub returns-in-Err-clause-whole : goal.returns-in-Err-clause-whole
returns-in-Err-clause-whole g c other = WritesLines-none (g.W.Write.contents c.args.writer.now)
