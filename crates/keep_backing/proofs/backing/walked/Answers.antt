use Rattle.std.proofs.Common.{map, string_bytes, ap, ◌∙◌}
use Rattle.keep_book.specs.Armed.{ledger_of}
use Rattle.keep_backing.specs.Asked.{facts_of, job_of}
use Rattle.keep_backing.proofs.Leaving.{added, either, not_begun, whatever}
use Rattle.keep_backing.proofs.backing.walked.Goals as goal

pub returns-in_err-tags-clause-failed : goal.returns-in_err-tags-clause-failed
returns-in_err-tags-clause-failed g c =
    whatever c.from_residual.result
    (not_begun g.R.Source.told (job_of c.args.asked.now) (facts_of c.args.asked.now) (map (λ tag. tag.now) c.args.words.now.tags.items)
    (ledger_of c.args.book.now))

pub returns-clause-added : goal.returns-clause-added
returns-clause-added g c =
    added g.R.Source.told (job_of c.args.asked.now) (facts_of c.args.asked.now) (ledger_of c.args.book.now) (ledger_of c.back_up-came.new.book)
    c.deref.result.now c.settings.result.cut.bytes (map string_bytes c.as_slice-2.result.now) (map (λ tag. tag.now) c.args.words.now.tags.items)
    c.back_up-came.result c.deref.ensures c.settings.ensures.cut
    (ap (map string_bytes) c.as_slice-2.ensures.value ∙ c.in_ok-tags.ensures ∙ ap (map (λ tag. tag.now)) c.as_slice.ensures.value)
    c.back_up-came.ensures.backed_up

pub returns-in_err-require_sure-clause-failed : goal.returns-in_err-require_sure-clause-failed
returns-in_err-require_sure-clause-failed g c =
    whatever c.from_residual-in_err-require_sure.result
    (either g.R.Source.told (job_of c.args.asked.now) (facts_of c.args.asked.now) (ledger_of c.args.book.now) (ledger_of c.back_up-came.new.book)
    (map (λ tag. tag.now) c.args.words.now.tags.items) c.back_up-came.result
    (added g.R.Source.told (job_of c.args.asked.now) (facts_of c.args.asked.now) (ledger_of c.args.book.now) (ledger_of c.back_up-came.new.book)
    c.deref.result.now c.settings.result.cut.bytes (map string_bytes c.as_slice-2.result.now) (map (λ tag. tag.now) c.args.words.now.tags.items)
    c.back_up-came.result c.deref.ensures c.settings.ensures.cut
    (ap (map string_bytes) c.as_slice-2.ensures.value ∙ c.in_ok-tags.ensures ∙ ap (map (λ tag. tag.now)) c.as_slice.ensures.value)
    c.back_up-came.ensures.backed_up)
    c.back_up-came.ensures.refused)
