-- What is there is known first, and then what each change tells.
use Rattle.std.proofs.Common.{◌∙◌, ◌+◌, Ok, ap, refl, arith}
use Rattle.std.proofs.lemmas.Iterator.Adapters.{YieldsList-from_vec, fact_from_collect}
use Rattle.std.specs.BTreeSet.{IsFromIterResult}
use Rattle.std.specs.List.{list_any}
use Rattle.std.specs.Ordering.{eq_by_cmp}
use Rattle.std.specs.declared.alloc.AllocError.{AllocError}
use Rattle.keep_names.specs.Orders.{id_cmp}
use Rattle.keep_journal.specs.Kept.{unfinal}
use Rattle.keep_journal.specs.Opening.{opening_under}
use Rattle.keep_view.proofs.Knowing.{known_at_first, known_set}
use Rattle.keep_view.proofs.Told.{told_all, told_on}
use Rattle.keep_view.proofs.known.known_snapshots.Goals as goal

pub loop-before-init : goal.loop-before-init
loop-before-init c id =
    let ids = c.in_ok-ids.ids in
    let known : IsFromIterResult id_cmp ids.items c.in_ok-known.known =
    fact_from_collect {E = AllocError} (IsFromIterResult id_cmp) (Ok c.in_ok-known.known) c.in_ok-known.ensures.ran
    (YieldsList-from_vec {s = c.into_iter.result} ids.items c.into_iter.ensures.rest (c.into_iter.ensures.len ∙ ids.ok.0)) in
    known_at_first _ c.args.history.now.journal c.args.live.now id c.requires _ c.final_number-before.result
    c.final_number-before.ensures (known.0 id ∙ ap (list_any (eq_by_cmp id_cmp id)) c.in_ok-ids.ensures)

pub loop-before-preserved : goal.loop-before-preserved
loop-before-preserved c id =
    told_on c.args.history.now.journal c.loop-before.before (c.loop-before.before + 1) id c.last_change-before-end.ensures.numbered refl (omega arith) _ _ _
    (c.loop-before.invariant id) (c.in_ok-learn_change.ensures id)

pub returns : goal.returns
returns c =
    let journal = c.args.history.now.journal in
    known_set (opening_under journal c.args.live.now) (unfinal journal) c.loop-before.known
    (λ id. told_all journal c.loop-before.before id c.last_change-before-end.ensures.numbered (omega arith) _ _ (c.loop-before.invariant id))
