use Rattle.std.proofs.Common.{map}
use Rattle.keep_book.specs.Armed.{ledger_of}
use Rattle.keep_backing.specs.Asked.{facts_of, job_of}
use Rattle.keep_backing.proofs.Leaving.{either, nothing_left, whatever}
use Rattle.keep_backing.proofs.backing.backup.Goals as goal

pub returns-in_err-anew-clause-failed : goal.returns-in_err-anew-clause-failed
returns-in_err-anew-clause-failed g c =
    whatever _
    (either g.R.Source.told (job_of c.args.asked) (facts_of c.args.asked) (ledger_of c.args.book.now) (ledger_of c.walked.new.book)
    (map (λ tag. tag.now) c.args.words.now.tags.items) c.in_ok-came.came c.in_ok-came.ensures.added c.in_ok-came.ensures.parts)

pub returns-in_err-print_end-clause-failed : goal.returns-in_err-print_end-clause-failed
returns-in_err-print_end-clause-failed g c =
    whatever _
    (either g.R.Source.told (job_of c.args.asked) (facts_of c.args.asked) (ledger_of c.args.book.now) (ledger_of c.walked.new.book)
    (map (λ tag. tag.now) c.args.words.now.tags.items) c.in_ok-came.came c.in_ok-came.ensures.added c.in_ok-came.ensures.parts)

pub returns-clause-added : goal.returns-clause-added
returns-clause-added g c _ =
    nothing_left g.R.Source.told (job_of c.args.asked) (facts_of c.args.asked) (ledger_of c.args.book.now) (ledger_of c.walked.new.book)
    (map (λ tag. tag.now) c.args.words.now.tags.items) c.in_ok-came.came c.in_ok-print_end.ensures c.in_ok-came.ensures.added
