use Rattle.std.proofs.Common.{length, Err, refl, ap, ◌∙◌}
use Rattle.std.proofs.lemmas.Result.{err_from_is_err_and}
use Rattle.std.proofs.KnownBytes.{Appends-nil}
use Rattle.keep_answers.proofs.KnownLemmas.{WritesLines-none, WritesLines-trans}
use Rattle.keep_answers.proofs.ListLines.{Written-failed, Written-last, Written-more}
use Rattle.keep_answers.specs.Text.{audit_last, finding_line}
use Rattle.keep_answers.proofs.answer_lists.write_findings.Goals as goal

pub returns-in_err-put_line-clause-puts : goal.returns-in_err-put_line-clause-puts
returns-in_err-put_line-clause-puts g c =
    let passed = err_from_is_err_and c.from_residual.result c.from_residual.ensures.1 in
    Written-failed finding_line c.args.findings.now c.loop-finding.finding-index _ _ _ (audit_last (length c.args.findings.now)) _ _ _ c.in_err-put_line.field-0.0 _ c.loop-finding-test.true refl refl c.loop-finding.invariant.so_far c.in_err-put_line.ensures.puts (passed.1 ∙ ap Err passed.2)

pub loop-finding-preserved : goal.loop-finding-preserved
loop-finding-preserved g c = record {
  so_far = Written-more finding_line c.args.findings.now c.loop-finding.finding-index _ _ _ _ _ c.loop-finding-test.true refl c.loop-finding.invariant.so_far c.in_ok-put_line.ensures.puts;
  whole = WritesLines-trans _ _ _ c.loop-finding.invariant.whole (c.in_ok-put_line.ensures.whole (λ e. cc e));
}

pub returns-clause-puts : goal.returns-clause-puts
returns-clause-puts g c = Written-last finding_line c.args.findings.now c.loop-finding.finding-index _ (audit_last (length c.args.findings.now)) _ _ _ _ c.loop-finding-test.false refl c.loop-finding.invariant.so_far c.put_line-2.ensures.puts

pub loop-finding-init : goal.loop-finding-init
loop-finding-init g c = record { so_far = Appends-nil _; whole = WritesLines-none _ }

pub returns-in_err-put_line-clause-whole : goal.returns-in_err-put_line-clause-whole
returns-in_err-put_line-clause-whole g c = λ failed.
    let passed = err_from_is_err_and c.from_residual.result c.from_residual.ensures.1 in
    WritesLines-trans _ _ _ c.loop-finding.invariant.whole (c.in_err-put_line.ensures.whole (λ e. failed (passed.1 ∙ ap Err passed.2 ∙ e)))

pub returns-clause-whole : goal.returns-clause-whole
returns-clause-whole g c = λ failed. WritesLines-trans _ _ _ c.loop-finding.invariant.whole (c.put_line-2.ensures.whole failed)
