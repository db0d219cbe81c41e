use Rattle.std.proofs.Common.{◌≡◌, ◌↔◌, List, slice_get, sym, ap, subst, ◌∙◌}
use Rattle.std.proofs.lemmas.Result.{IfErr-weaker, IfOk-weaker}
use Rattle.std.specs.FinMap as finite
use Rattle.keep_names.specs.declared.blob.BlobId.{BlobId}
use Rattle.keep_names.specs.declared.id.Id.{Id}
use Rattle.keep_catalog.specs.Files.{snaps_in}
use Rattle.keep_reach.specs.Snapshots.{IsOwedByOne, refusals_of}
use Rattle.keep_reach.specs.Walk.{Knows}
use Rattle.keep_reach.proofs.Reached.{first_broken, kept_names, none_broken, owed_by_all}
use Rattle.keep_reach.proofs.UsedBlobs.{both_ok, keys_are_used}
use Rattle.keep_reach.proofs.snapshots.used.Goals as goal

pub returns-clause-reached : goal.returns-clause-reached
returns-clause-reached c =
    let are : c.deref.result.now ≡ finite.keys (snaps_in c.args.catalog.now) = c.deref.ensures.value ∙ c.in_ok-snapshots.ensures ∙ kept_names c.args.catalog.now c.snaps.result.now c.snaps.ensures.ordered c.snaps.ensures.each c.snaps.ensures.all in
    IfOk-weaker c.reach_all.result _ _ (λ reached just blob.
    let O : List Id → Type 0 = λ names. Knows reached blob ↔ IsOwedByOne c.args.catalog.now names blob in
    let all = subst O are (just blob) in
    let used = owed_by_all c.args.catalog.now blob in
    (λ knew. used.0 (all.0 knew), λ is. all.1 (used.1 is))) c.reach_all.ensures.reached

pub returns-clause-listed : goal.returns-clause-listed
returns-clause-listed c =
    let are : c.deref.result.now ≡ finite.keys (snaps_in c.args.catalog.now) = c.deref.ensures.value ∙ c.in_ok-snapshots.ensures ∙ kept_names c.args.catalog.now c.snaps.result.now c.snaps.ensures.ordered c.snaps.ensures.each c.snaps.ensures.all in
    both_ok c.reach_all.result _ _ _ (λ reached ordered just.
    let O : BlobId → List Id → Type 0 = λ blob names. Knows reached blob ↔ IsOwedByOne c.args.catalog.now names blob in
    keys_are_used c.args.catalog.now reached ordered (λ blob.
    let all = subst (O blob) are (just blob) in
    let used = owed_by_all c.args.catalog.now blob in
    (λ knew. used.0 (all.0 knew), λ is. all.1 (used.1 is)))) c.reach_all.ensures.ordered c.reach_all.ensures.reached

pub returns-clause-all : goal.returns-clause-all
returns-clause-all c =
    let are : c.deref.result.now ≡ finite.keys (snaps_in c.args.catalog.now) = c.deref.ensures.value ∙ c.in_ok-snapshots.ensures ∙ kept_names c.args.catalog.now c.snaps.result.now c.snaps.ensures.ordered c.snaps.ensures.each c.snaps.ensures.all in
    IfOk-weaker c.reach_all.result _ _ (λ _ none. none_broken c.args.catalog.now (sym (ap (refusals_of c.args.catalog.now) are) ∙ none)) c.reach_all.ensures.all

pub returns-clause-refused : goal.returns-clause-refused
returns-clause-refused c =
    let are : c.deref.result.now ≡ finite.keys (snaps_in c.args.catalog.now) = c.deref.ensures.value ∙ c.in_ok-snapshots.ensures ∙ kept_names c.args.catalog.now c.snaps.result.now c.snaps.ensures.ordered c.snaps.ensures.each c.snaps.ensures.all in
    IfErr-weaker c.reach_all.result _ _ (λ error first other.
    first_broken c.args.catalog.now ∙ sym (ap (λ names. slice_get (refusals_of c.args.catalog.now names) 0) are) ∙ first other) c.reach_all.ensures.refused
