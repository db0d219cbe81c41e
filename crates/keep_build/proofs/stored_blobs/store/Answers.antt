use Rattle.std.proofs.Common.{◌≡◌, ◌+◌, ℕ, [], ◌∷◌, ◌++◌, List, map, take, Err, sym, ap, ◌∙◌}
use Rattle.std.specs.Global.{Vec}
use Rattle.std.proofs.lemmas.List.{map_more, take_all}
use Rattle.std.proofs.lemmas.Result.{err_from_is_err_and}
use Rattle.keep_names.specs.declared.blob.BlobType.{BlobType}
use Rattle.keep_build.specs.Blobs.{is_full}
use Rattle.keep_plan.specs.Refusal.{of_catalog}
use Rattle.keep_build.specs.Storing.{given}
use Rattle.keep_build.proofs.Answering.{full_is, keeps_same, none_named, some_full, stored_is, unread_is}
use Rattle.keep_build.proofs.stored_blobs.store.Goals as goal

pub returns-in_err-catalog : goal.returns-in_err-catalog
returns-in_err-catalog c =
    let p = err_from_is_err_and c.from_residual.result c.from_residual.ensures.1 in
    rw (p.1, p.2) (λ other. unread_is c.args.view.now.repo (map given c.args.blobs.now) c.in_err-catalog.field-0.0 (c.in_err-catalog.ensures.refused (λ memory. other (ap of_catalog memory))))

pub returns-in_err-put : goal.returns-in_err-put
returns-in_err-put c =
    let p = err_from_is_err_and c.from_residual-in_err-put.result c.from_residual-in_err-put.ensures.1 in
    let item = c.loop-blob_type-item.result in
    let blobs = c.args.blobs.now in
    rw (p.1, p.2)
    (λ other. let refused = c.in_err-put.ensures.refused other in
    full_is c.args.view.now.repo (map given blobs) c.in_ok-catalog.ensures.all_read
    (some_full blobs c.loop-blob_type.blob_type-index item c.loop-blob_type-test.true
    (ap (λ (b : BlobType × Vec ℕ). is_full (given b)) (sym c.loop-blob_type-item.is)
    ∙ ap (λ (bytes : List ℕ). is_full (item.0, bytes)) (sym c.deref.ensures.value) ∙ refused.1))
    ∙ ap Err (sym refused.0))

pub loop-blob_type-preserved : goal.loop-blob_type-preserved
loop-blob_type-preserved c =
    let r = c.args.view.now.repo in
    let item = c.loop-blob_type-item.result in
    let blobs = c.args.blobs.now in
    let i = c.loop-blob_type.blob_type-index in
    let next : map given (take (i + 1) blobs) ≡ map given (take i blobs) ++ (item.0, c.deref.result.now) ∷ [] =
    map_more given blobs i item c.loop-blob_type-test.true
    ∙ ap (λ (b : BlobType × Vec ℕ). map given (take i blobs) ++ given b ∷ []) (sym c.loop-blob_type-item.is)
    ∙ ap (λ (bytes : List ℕ). map given (take i blobs) ++ (item.0, bytes) ∷ []) (sym c.deref.ensures.value) in
    keeps_same r _ _ c.put.new.self (sym next) (c.in_ok-put.ensures.kept r [] (map given (take i blobs)) c.loop-blob_type.invariant)

pub finish-requires : goal.finish-requires
finish-requires c =
    let r = c.args.view.now.repo in
    let blobs = c.args.blobs.now in
    rw c.repo.ensures ([], map given blobs, keeps_same r _ _ c.loop-blob_type.storing (ap (map given) (take_all c.loop-blob_type.blob_type-index blobs c.loop-blob_type-test.false)) c.loop-blob_type.invariant)

pub returns : goal.returns
returns c =
    let r = c.args.view.now.repo in
    let blobs = c.args.blobs.now in
    let keeps = keeps_same r _ _ c.loop-blob_type.storing (ap (map given) (take_all c.loop-blob_type.blob_type-index blobs c.loop-blob_type-test.false)) c.loop-blob_type.invariant in
    stored_is r (map given blobs) c.in_ok-finish.field-0 c.in_ok-catalog.ensures.all_read keeps.fits ((rw c.repo.ensures at c.in_ok-finish.ensures) [] (map given blobs) keeps ∙ none_named r (map given blobs))
