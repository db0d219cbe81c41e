use Rattle.std.proofs.Common.{map, sym, ap, ◌∙◌}
use Rattle.std.proofs.lemmas.Result.{err_from_is_err_and}
use Rattle.keep_patterns.specs.Parsing.{pattern_view}
use Rattle.keep_snap.specs.Facts.{facts_view}
use Rattle.keep_build.specs.Storing.{given}
use Rattle.keep_rewrite.specs.Rewriting.{retreed_of, rewriting_of}
use Rattle.keep_rewrite.proofs.Planned.{plan_due, stored_alike}
use Rattle.keep_rewrite.proofs.rewrite_plan.plan_of.Goals as goal

pub returns-in_err-stored-clause-change : goal.returns-in_err-stored-clause-change
returns-in_err-stored-clause-change c =
    let r = c.args.view.now.repo in
    let patterns = map pattern_view c.args.walk.now.patterns.now in
    let taken = map facts_view c.args.taken.now in
    let due = err_from_is_err_and c.from_residual-in_err-stored.result c.from_residual-in_err-stored.ensures.1 in
    rw (due.1, due.2) (λ other.
    ap (rewriting_of r c.args.forget (retreed_of r patterns taken))
    (stored_alike r c.args.walk.now.catalog.now patterns c.args.forget taken (map given c.in_ok-retreed.trees.items) c.requires.catalog c.in_ok-retreed.ensures.trees
    (map given c.deref.result.now) (ap (map given) c.deref.ensures.value) ∙ c.in_err-stored.ensures other))

pub returns-in_err-change-clause-change : goal.returns-in_err-change-clause-change
returns-in_err-change-clause-change c =
    let r = c.args.view.now.repo in
    let patterns = map pattern_view c.args.walk.now.patterns.now in
    let taken = map facts_view c.args.taken.now in
    let due = err_from_is_err_and c.from_residual-in_err-change.result c.from_residual-in_err-change.ensures.1 in
    rw (due.1, due.2) (λ other.
    sym (plan_due r c.args.walk.now.catalog.now patterns c.args.forget taken (map given c.in_ok-retreed.trees.items) c.requires.catalog c.in_ok-retreed.ensures.trees
    c.repo.result.now c.in_ok-retreed.retreed.items (map given c.deref.result.now) c.in_ok-stored.stored c.repo.ensures c.in_ok-retreed.ensures.retreed (ap (map given) c.deref.ensures.value) c.in_ok-stored.ensures)
    ∙ c.in_err-change.ensures other)

pub returns-clause-change : goal.returns-clause-change
returns-clause-change c =
    let r = c.args.view.now.repo in
    let patterns = map pattern_view c.args.walk.now.patterns.now in
    let taken = map facts_view c.args.taken.now in
    sym (plan_due r c.args.walk.now.catalog.now patterns c.args.forget taken (map given c.in_ok-retreed.trees.items) c.requires.catalog c.in_ok-retreed.ensures.trees
    c.repo.result.now c.in_ok-retreed.retreed.items (map given c.deref.result.now) c.in_ok-stored.stored c.repo.ensures c.in_ok-retreed.ensures.retreed (ap (map given) c.deref.ensures.value) c.in_ok-stored.ensures)
    ∙ c.in_ok-change.ensures
