use Rattle.std.proofs.Common.{List, ◌++◌, Err, refl, sym, ap, ◌∙◌}
use Rattle.std.proofs.lemmas.Result.{err_from_is_err_and}
use Rattle.std.specs.List.{flat_map}
use Rattle.keep_names.specs.declared.file_name.FileName.{FileName}
use Rattle.std.proofs.KnownBytes.{Appends-nil}
use Rattle.keep_answers.proofs.KnownLemmas.{WritesLines-none, WritesLines-trans}
use Rattle.keep_answers.proofs.ListLines.{Written-failed, Written-last, Written-more}
use Rattle.keep_answers.specs.Text.{count_answer, file_line}
use Rattle.keep_answers.proofs.answer_lists.write_list.Goals as goal

pub returns-in_err-write_file-clause-puts : goal.returns-in_err-write_file-clause-puts
returns-in_err-write_file-clause-puts g c =
    let passed = err_from_is_err_and c.from_residual-in_err-write_file.result c.from_residual-in_err-write_file.ensures.1 in
    let repo = c.args.repo.now in
    let same = c.deref-name-items.ensures.value ∙ c.in_ok-names.ensures.files in
    let all = ap (λ (ns : List FileName). flat_map (file_line repo) ns ++ count_answer repo) (sym same) in
    Written-failed (file_line repo) c.deref-name-items.result.now c.loop-name.name-index _ _ _ (count_answer repo) _ _ _ c.in_err-write_file.field-0.0 _ c.loop-name-test.true refl all c.loop-name.invariant.so_far c.in_err-write_file.ensures.puts (passed.1 ∙ ap Err passed.2)

pub loop-name-preserved : goal.loop-name-preserved
loop-name-preserved g c = record {
  so_far = Written-more (file_line c.args.repo.now) c.deref-name-items.result.now c.loop-name.name-index _ _ _ _ _ c.loop-name-test.true refl c.loop-name.invariant.so_far c.in_ok-write_file.ensures.puts;
  whole = WritesLines-trans _ _ _ c.loop-name.invariant.whole (c.in_ok-write_file.ensures.whole (λ e. cc e));
}

pub returns-clause-puts : goal.returns-clause-puts
returns-clause-puts g c =
    let repo = c.args.repo.now in
    let same = c.deref-name-items.ensures.value ∙ c.in_ok-names.ensures.files in
    let all = ap (λ (ns : List FileName). flat_map (file_line repo) ns ++ count_answer repo) (sym same) in
    Written-last (file_line repo) c.deref-name-items.result.now c.loop-name.name-index _ (count_answer repo) _ _ _ _ c.loop-name-test.false all c.loop-name.invariant.so_far c.write_count.ensures.puts

pub loop-name-init : goal.loop-name-init
loop-name-init g c = record { so_far = Appends-nil _; whole = WritesLines-none _ }

pub returns-in_err-write_file-clause-whole : goal.returns-in_err-write_file-clause-whole
returns-in_err-write_file-clause-whole g c = λ failed.
    let passed = err_from_is_err_and c.from_residual-in_err-write_file.result c.from_residual-in_err-write_file.ensures.1 in
    WritesLines-trans _ _ _ c.loop-name.invariant.whole (c.in_err-write_file.ensures.whole (λ e. failed (passed.1 ∙ ap Err passed.2 ∙ e)))

pub returns-clause-whole : goal.returns-clause-whole
returns-clause-whole g c = λ failed. WritesLines-trans _ _ _ c.loop-name.invariant.whole (c.write_count.ensures.whole failed)
