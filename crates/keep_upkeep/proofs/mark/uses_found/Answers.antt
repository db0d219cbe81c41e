use Rattle.std.proofs.Common.{◌≡◌, List, [], ◌∷◌, ◌++◌, rules, sym, ap, ◌∙◌, append-nil, append_assoc}
use Rattle.keep_reach.specs.declared.reached_blobs.ReachedBlob.{ReachedBlob}
use Rattle.keep_names.specs.declared.blob.BlobId.{BlobId}
use Rattle.keep_upkeep.proofs.MarkUsed.{all_found, one_more_found}
use Rattle.keep_upkeep.proofs.mark.uses_found.Goals as goal

pub loop-found-init : goal.loop-found-init
loop-found-init c = ([], search rules, λ r found. c.new-reuses.ensures r)

pub loop-found-preserved : goal.loop-found-preserved
loop-found-preserved c =
    let l = c.loop-found in
    let done = l.invariant.0 in
    let e : BlobId × ReachedBlob = (c.in-Some.field-0-0.now, c.in-Some.found.now) in
    let left = c.next.new.self in
    let step : l.found-iterator ≡ e ∷ left = c.in-Some.ensures.steps in (
      done ++ e ∷ [],
      append_assoc done (e ∷ []) left ∙ ap (λ (es : List (BlobId × ReachedBlob)). done ++ es) (sym step) ∙ l.invariant.1,
      one_more_found done e l.reuses c.rest_on.new.self l.invariant.2 c.in_ok-rest_on.ensures,
    )

pub returns : goal.returns
returns c r chosen =
    let l = c.loop-found in
    let done = l.invariant.0 in
    let all : done ≡ c.args.reached.now.entries = sym (append-nil done) ∙ ap (λ (es : List (BlobId × ReachedBlob)). done ++ es) (sym c.in-None.ensures.steps.0) ∙ l.invariant.1 in
    all_found c.args.reached.now done l.reuses all c.iter-found-items.ensures.ordered l.invariant.2 r chosen
