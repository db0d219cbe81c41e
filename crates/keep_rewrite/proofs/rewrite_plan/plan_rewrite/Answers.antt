use Rattle.std.proofs.Common.{List, map, sym, ap, subst, ◌∙◌}
use Rattle.std.proofs.lemmas.Result.{err_from_is_err_and}
use Rattle.keep_repo.specs.Repository.{Repository}
use Rattle.keep_patterns.specs.Parsing.{pattern_view}
use Rattle.keep_snap.specs.Facts.{FactsData, facts_view}
use Rattle.keep_reach.specs.Snapshots.{refusals_of}
use Rattle.keep_plan.proofs.Refused.{none_unread, unread_refused}
use Rattle.keep_plan.specs.Refusal.{unreached_first}
use Rattle.keep_plan.specs.Taking.{taken_in}
use Rattle.keep_rewrite.specs.Rewriting.{rewrite_change}
use Rattle.keep_rewrite.specs.Walking.{AreReached}
use Rattle.keep_rewrite.proofs.Picked.{all_picked, all_reached}
use Rattle.keep_rewrite.proofs.Planned.{answered, planned_so, reach_refused, read_refused}
use Rattle.keep_rewrite.proofs.rewrite_plan.plan_rewrite.Goals as goal

pub returns-in_err-catalog-clause-change : goal.returns-in_err-catalog-clause-change
returns-in_err-catalog-clause-change g c =
    let p = err_from_is_err_and c.from_residual.result c.from_residual.ensures.1 in
    rw (p.1, p.2) (read_refused c.args.view.now.repo c.args.filter.now.rule (map pattern_view c.args.patterns.now) c.args.forget _
    (unread_refused c.args.view.now.repo _ c.in_err-catalog.ensures.refused))

pub returns-in_err-ask_reach-clause-change : goal.returns-in_err-ask_reach-clause-change
returns-in_err-ask_reach-clause-change g c =
    let p = err_from_is_err_and c.from_residual-in_err-ask_reach.result c.from_residual-in_err-ask_reach.ensures.1 in
    let taken = ap (map facts_view) c.deref.ensures.value ∙ c.in_ok-taken.ensures ∙ ap (taken_in c.args.filter.now.rule) c.in_ok-catalog.ensures.catalog in
    rw (p.1, p.2) (reach_refused c.args.view.now.repo c.args.filter.now.rule (map pattern_view c.args.patterns.now) c.args.forget (map facts_view c.deref.result.now) _
    (none_unread c.args.view.now.repo c.in_ok-catalog.ensures.all_read) taken
    (λ other. ap (λ (q : Repository). unreached_first (refusals_of q (map (λ s. s.name) (map facts_view c.deref.result.now)))) (sym c.in_ok-catalog.ensures.catalog) ∙ c.in_err-ask_reach.ensures.refused other))

pub plan_of-requires-clause-reached : goal.plan_of-requires-clause-reached
plan_of-requires-clause-reached g c =
    let r = c.args.view.now.repo in
    let rule = c.args.filter.now.rule in
    let is = c.in_ok-taken.ensures ∙ ap (taken_in rule) c.in_ok-catalog.ensures.catalog in
    let first = ap (map facts_view) c.deref.ensures.value ∙ is in
    let second = ap (map facts_view) c.deref-2.ensures.value ∙ is in
    let had = sym (ap (λ (ts : List FactsData). refusals_of r (map (λ s. s.name) ts)) first)
    ∙ ap (λ (q : Repository). refusals_of q (map (λ s. s.name) (map facts_view c.deref.result.now))) (sym c.in_ok-catalog.ensures.catalog)
    ∙ c.in_ok-ask_reach.ensures.had in
    subst (λ (ts : List FactsData). AreReached r ts) (sym second) (all_reached r (taken_in rule r) (all_picked r rule) had)

pub returns-clause-change : goal.returns-clause-change
returns-clause-change g c =
    let r = c.args.view.now.repo in
    let rule = c.args.filter.now.rule in
    let is = c.in_ok-taken.ensures ∙ ap (taken_in rule) c.in_ok-catalog.ensures.catalog in
    let first = ap (map facts_view) c.deref.ensures.value ∙ is in
    let second = ap (map facts_view) c.deref-2.ensures.value ∙ is in
    let had = ap (λ (ts : List FactsData). refusals_of r (map (λ s. s.name) ts)) (second ∙ sym first)
    ∙ ap (λ (q : Repository). refusals_of q (map (λ s. s.name) (map facts_view c.deref.result.now))) (sym c.in_ok-catalog.ensures.catalog)
    ∙ c.in_ok-ask_reach.ensures.had in
    answered r rule (map pattern_view c.args.patterns.now) c.args.forget (map facts_view c.deref-2.result.now) c.plan_of.result
    (none_unread c.args.view.now.repo c.in_ok-catalog.ensures.all_read) second had c.plan_of.ensures.change

pub returns-clause-planned : goal.returns-clause-planned
returns-clause-planned g c =
    let r = c.args.view.now.repo in
    let rule = c.args.filter.now.rule in
    let patterns = map pattern_view c.args.patterns.now in
    let can = c.a_planned_rewrite_can_be_made.ensures in
    planned_so c.args.view.now (rewrite_change r rule patterns c.args.forget)
    (can.well_formed r rule patterns c.args.forget) (can.met r rule patterns c.args.forget)
    c.plan_of.result (returns-clause-change g c) c.plan_of.ensures.seen
