use Rattle.std.proofs.Common.{ℕ, ◌≤◌, sym, subst, ◌∙◌}
use Rattle.keep_reach.specs.Reach.{most_levels}
use Rattle.keep_reach.proofs.Heights.{fits}
use Rattle.keep_reach.proofs.snapshots.refusal.Goals as goal

pub returns-in-Ok-clause-why : goal.returns-in-Ok-clause-why
returns-in-Ok-clause-why c =
    let L : ℕ → Type 0 = λ n. c.in-Ok.field-0 ≤ n in
    sym
    (c.in-Ok.ensures.height.exact most_levels
    ∙ fits c.in-Ok.field-0 most_levels (subst L c.levels.ensures.value c.in-Ok.ensures.within))
