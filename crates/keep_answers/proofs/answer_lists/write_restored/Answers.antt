use Rattle.std.proofs.Common.{◌≡◌, ℕ, List, [], ◌++◌, string_bytes, Err, rules, ap, ap₂, ◌∙◌, append_assoc}
use Rattle.std.proofs.lemmas.Result.{err_from_is_err_and}
use Rattle.std.proofs.KnownBytes.{Appends-nil, Appends-trans}
use Rattle.std.specs.FinMap as map
use Rattle.std.specs.List.{flat_map}
use Rattle.keep_read.specs.Restored.{path_cmp}
use Rattle.keep_answers.proofs.KnownLemmas.{Puts-failed, Puts-last, WritesLines-none, WritesLines-trans}
use Rattle.keep_answers.proofs.RestoreLemmas.{last_split, next_split, pairs, restored_split}
use Rattle.keep_answers.specs.Text.{restored_last, restored_line}
use Rattle.keep_answers.proofs.answer_lists.write_restored.Goals as goal

pub returns-in_err-write_restored_file-clause-puts : goal.returns-in_err-write_restored_file-clause-puts
returns-in_err-write_restored_file-clause-puts g c =
    let (done, split, appended) = c.loop-path.invariant.so_far in
    let passed = err_from_is_err_and c.from_residual.result c.from_residual.ensures.1 in
    let files = c.args.restored.now.files.entries in
    let line = restored_line (c.deref.result.now, c.deref-in-loop-path.result.now) in
    let told : line ≡ restored_line (string_bytes c.in-Some.path.now, c.in-Some.bytes.now.items) = ap₂ (λ (p b : List ℕ). restored_line (p, b)) c.deref.ensures c.deref-in-loop-path.ensures.value in
    let counts = restored_last (map.len (map.from_entries {R = path_cmp} (pairs files))) c.args.restored.now.skipped in
    let rest = flat_map restored_line (pairs c.next.new.self) in
    let next = next_split files c.loop-path.path-iterator c.next.new.self c.in-Some.path.now c.in-Some.bytes.now done line c.in-Some.ensures.steps told split in
    let whole = restored_split files c.into_iter-path-iterator.ensures.into_iter_gives.5 c.args.restored.now.skipped (done ++ line) rest next ∙ append_assoc done line (rest ++ counts) in
    Puts-failed _ _ _ _ done line (rest ++ counts) c.in_err-write_restored_file.field-0.0 _ whole appended c.in_err-write_restored_file.ensures.puts (passed.1 ∙ ap Err passed.2)

pub loop-path-preserved : goal.loop-path-preserved
loop-path-preserved g c =
    let (done, split, appended) = c.loop-path.invariant.so_far in
    let files = c.args.restored.now.files.entries in
    let line = restored_line (c.deref.result.now, c.deref-in-loop-path.result.now) in
    let told : line ≡ restored_line (string_bytes c.in-Some.path.now, c.in-Some.bytes.now.items) = ap₂ (λ (p b : List ℕ). restored_line (p, b)) c.deref.ensures c.deref-in-loop-path.ensures.value in
    record {
      so_far = (
        done ++ line,
        next_split files c.loop-path.path-iterator c.next.new.self c.in-Some.path.now c.in-Some.bytes.now done line c.in-Some.ensures.steps told split,
        Appends-trans _ _ _ done _ appended c.in_ok-write_restored_file.ensures.puts,
      );
      whole = WritesLines-trans _ _ _ c.loop-path.invariant.whole (c.in_ok-write_restored_file.ensures.whole (λ e. cc e));
    }

pub returns-clause-puts : goal.returns-clause-puts
returns-clause-puts g c =
    let (done, split, appended) = c.loop-path.invariant.so_far in
    let files = c.args.restored.now.files.entries in
    let counts = restored_last (map.len (map.from_entries {R = path_cmp} (pairs files))) c.args.restored.now.skipped in
    let all = last_split files c.loop-path.path-iterator done c.in-None.ensures.steps.0 split in
    let whole = restored_split files c.into_iter-path-iterator.ensures.into_iter_gives.5 c.args.restored.now.skipped done [] all in
    Puts-last _ _ _ _ done counts _ whole appended c.write_counts.ensures.puts

pub loop-path-init : goal.loop-path-init
loop-path-init g c = record { so_far = ([], search rules, Appends-nil _); whole = WritesLines-none _ }

pub returns-in_err-write_restored_file-clause-whole : goal.returns-in_err-write_restored_file-clause-whole
returns-in_err-write_restored_file-clause-whole g c = λ failed.
    let passed = err_from_is_err_and c.from_residual.result c.from_residual.ensures.1 in
    WritesLines-trans _ _ _ c.loop-path.invariant.whole (c.in_err-write_restored_file.ensures.whole (λ e. failed (passed.1 ∙ ap Err passed.2 ∙ e)))

pub returns-clause-whole : goal.returns-clause-whole
returns-clause-whole g c = λ failed. WritesLines-trans _ _ _ c.loop-path.invariant.whole (c.write_counts.ensures.whole failed)
