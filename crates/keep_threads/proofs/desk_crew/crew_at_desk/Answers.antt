use Rattle.std.proofs.Common.{◌∙◌, ℕ, ◌-◌, ap, arith, map, refl, sym}
use Rattle.keep_journal.specs.History.{length_of}
use Rattle.keep_jobs.specs.Job.{settings_view}
use Rattle.keep_ledger.specs.LedgerState.{LedgerState}
use Rattle.keep_threads.proofs.Crewing.{all_allowed, all_out, crewed, hands_long, have_worked}
use Rattle.keep_threads.proofs.desk_crew.crew_at_desk.Goals as goal

pub set_to_work-worked-requires-after_bounds : goal.set_to_work-worked-requires-after_bounds
set_to_work-worked-requires-after_bounds g c κs within =
    all_allowed g.B.Naming.hooks.vetoes (settings_view c.args.order.settings) c.args.order.time.now g.B.Naming.opening
    c.in-Ok-open.passes.items c.args.works.items c.in-Ok-open.ensures.fresh c.requires.asked (c.in-Ok-open.ensures.long ∙ sym c.requires.size.2)
    g.B.Naming.allows c.args.order.size c.requires.allows c.requires.size.2 c.operators_of-operators.result.items
    c.operators_of-operators.ensures

pub close_after-keeper-requires-clause-room : goal.close_after-keeper-requires-clause-room
close_after-keeper-requires-clause-room g c κs within =
    omega (
      arith,
      hands_long c.in-Ok-open.passes.items c.args.works.items c.operators_of-operators.result.items
          (c.in-Ok-open.ensures.long ∙ sym c.requires.size.2) c.operators_of-operators.ensures,
      c.set_to_work-worked.ensures.all,
      c.set_to_work-worked.result.ok.0,
      c.requires.size.2,
      c.in-Ok.ensures.passes.1,
    )

pub returns-in-Ok-open-clause-crewed : goal.returns-in-Ok-open-clause-crewed
returns-in-Ok-open-clause-crewed g c =
    let rules = g.B.Naming.hooks.vetoes in
    let settings = settings_view c.args.order.settings in
    let time = c.args.order.time.now in
    let opening = g.B.Naming.opening in
    let passes = c.in-Ok-open.passes.items in
    let works = c.args.works.items in
    let as_many = c.in-Ok-open.ensures.long ∙ sym c.requires.size.2 in
    let before = c.operators_of-operators.result.items in
    let after = c.set_to_work-worked.result.items in
    let taken = map (λ operator. operator.pass) after in
    let told = c.close_after-keeper.result.1 in
    rw (c.requires.hooks, c.requires.opening) (crewed rules settings time opening g.B.Naming.allows taken g.B.Ledger.parts c.args.order.size
    (g.K.Keeper.ledger c.close_after-keeper.result.0) told.accepted told.length c.requires.allows
    (have_worked rules settings time opening passes works c.in-Ok-open.ensures.fresh c.requires.asked as_many before after
    c.operators_of-operators.ensures c.set_to_work-worked.ensures.all taken refl c.set_to_work-worked.ensures.worked)
    (all_out rules settings time opening passes works c.in-Ok-open.ensures.fresh c.requires.asked as_many before after
    c.operators_of-operators.ensures c.set_to_work-worked.ensures.all taken refl ∙ c.requires.size.2)
    (sym c.requires.counts.1 ∙ c.requires.counts.2) c.close_after-keeper.ensures.closed c.close_after-keeper.ensures.length
    (c.close_after-keeper.ensures.accepted
    ∙ ap (λ (n : ℕ). told.length - n)
    (c.length-before.ensures ∙ (ap length_of c.history.ensures.events ∙ ap (λ (b : LedgerState). length_of b.events) c.requires.opening))))
