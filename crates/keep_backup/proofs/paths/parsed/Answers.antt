use Rattle.std.proofs.Common.{◌≡◌, ◌∷◌, [], map, ok_or, Err, sym, ap, ap₂, ◌∙◌}
use Rattle.std.proofs.lemmas.List.{map-append}
use Rattle.std.proofs.lemmas.Result.{err_from_is_err_and}
use Rattle.keep_docs.proofs.Each.{each_end, each_next, each_refused}
use Rattle.keep_docs.proofs.Answered.{found_from_ok, none_from_err}
use Rattle.keep_backup.specs.Files.{file_view, given_view}
use Rattle.keep_backup.specs.Paths.{given_file}
use Rattle.keep_plan.specs.declared.plan_error.PlanError.TheVariants.{BadPath}
use Rattle.keep_backup.proofs.paths.parsed.Goals as goal

pub returns-in_err-file : goal.returns-in_err-file
returns-in_err-file c =
    let turn = c.loop-path in
    let due = err_from_is_err_and c.from_residual-in_err-file.result c.from_residual-in_err-file.ensures.1 in
    let same : (c.as_str.result.now, c.as_slice.result.now) ≡ given_view c.loop-path-item.result = ap₂ (λ path bytes. (path, bytes)) c.as_str.ensures.value c.as_slice.ensures.value in
    rw (due.1, due.2) (λ other.
    let refused = none_from_err _ _ _ (c.in_err-file.ensures other) in
    ap (λ found. ok_or found BadPath)
    (each_refused given_view given_file c.args.given.now turn.path-index (map file_view turn.files.items) c.loop-path-item.result turn.invariant c.loop-path-test.true c.loop-path-item.is (ap given_file (sym same) ∙ refused.0))
    ∙ ap Err refused.1)

pub loop-path-preserved : goal.loop-path-preserved
loop-path-preserved c =
    let turn = c.loop-path in
    let file = c.in_ok-file.file in
    let same : (c.as_str.result.now, c.as_slice.result.now) ≡ given_view c.loop-path-item.result = ap₂ (λ path bytes. (path, bytes)) c.as_str.ensures.value c.as_slice.ensures.value in
    rw (c.in_ok-push.ensures.items, map-append file_view turn.files.items (file ∷ []))
    (each_next given_view given_file c.args.given.now turn.path-index (map file_view turn.files.items) c.loop-path-item.result (file_view file) turn.invariant c.loop-path-test.true c.loop-path-item.is (ap given_file (sym same) ∙ found_from_ok _ _ _ c.in_ok-file.ensures))

pub returns : goal.returns
returns c =
    ap (λ found. ok_or found BadPath)
    (each_end given_view given_file c.args.given.now c.loop-path.path-index (map file_view c.loop-path.files.items) c.loop-path.invariant c.loop-path-test.false)
