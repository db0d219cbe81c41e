-- The place that the binary search found is the one whose facet ties, and where it found none, none does.
use Rattle.std.proofs.Common.{rules, sym, ap, ◌∙◌, Some}
use Rattle.std.proofs.lemmas.List.Sorted.{answers_always}
use Rattle.keep_repo.specs.Facet.{facet_cmp}
use Rattle.keep_repo.specs.contracts.facet.FacetOrd.TheImpl.Laws.{total-law}
use Rattle.keep_change.proofs.Sorted.{find-at, find-past}
use Rattle.keep_change.proofs.member.find.Goals as goal

pub returns-in-Ok : goal.returns-in-Ok
returns-in-Ok g c =
    let by_key = c.in-Ok.ensures.position g.M.Member.facet_of (answers_always _ _ _ (λ f a r h called. search rules)) in
    let found = find-at facet_cmp total-law g.M.Member.facet_of c.args.facet c.args.members.now c.in-Ok.place c.index-members-place.result c.requires c.in-Ok.ensures.bound (by_key c.index-members-place.result) in
    ap Some c.index-members-place.is ∙ sym found

pub returns-in-Err : goal.returns-in-Err
returns-in-Err g c =
    let by_key = c.in-Err.ensures.position g.M.Member.facet_of (answers_always _ _ _ (λ f a r h called. search rules)) in
    sym (find-past facet_cmp total-law g.M.Member.facet_of c.args.facet c.args.members.now c.in-Err.field-0 c.requires by_key)
