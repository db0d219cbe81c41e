-- Each later change that is kept is gone through in turn.
use Rattle.std.proofs.Common.{◌∙◌, ◌+◌, sym, ap, refl, arith}
use Rattle.keep_journal.proofs.Kept.{kept_later}
use Rattle.keep_journal.specs.Kept.{later}
use Rattle.keep_repo.specs.Repository.{Repository}
use Rattle.keep_damage.specs.Asked.{passed}
use Rattle.keep_damage.proofs.Passing.{Passes, passes_end, passes_with, passes_without}
use Rattle.keep_damage.proofs.asked.pass_all.Goals as goal
use Rattle.keep_damage.proofs.asked.pass_all.Goals.{in-Some+in_ok-fold_step, in_default}

pub loop-n-init : goal.loop-n-init
loop-n-init c = ap (λ ns. passed c.args.pass ns c.args.repo.now.files) (ap (later c.args.history.now.journal) c.final_number-n.ensures ∙ kept_later c.args.history.now.journal)

pub loop-n-preserved : goal.loop-n-preserved
loop-n-preserved c =
    let j = c.args.history.now.journal in
    elim c.match-kept_change.branch [
      | in-Some+in_ok-fold_step w ↦
          passes_with c.args.pass j c.loop-n.n (c.loop-n.n + 1) w.in-Some.change.now c.args.repo.now.files c.loop-n.repo.files c.match-kept_change.repo.files c.last_change-n-end.ensures.numbered refl
          (sym w.in-Some.ensures.exact) (ap (λ (r : Repository). r.files) w.repo-is ∙ w.in_ok-fold_step.ensures) c.loop-n.invariant
      | in_default w ↦
          let same : Passes c.args.pass j (c.loop-n.n + 1) c.args.repo.now.files c.loop-n.repo.files =
          passes_without c.args.pass j c.loop-n.n (c.loop-n.n + 1) c.args.repo.now.files c.loop-n.repo.files c.last_change-n-end.ensures.numbered refl
          (omega (arith, c.loop-n-test.true, c.last_change-n-end.ensures.exact)) (sym w.in_default.ensures.exact) c.loop-n.invariant in
          ap (λ (r : Repository). passed c.args.pass (later j (c.loop-n.n + 1)) r.files) w.repo-is ∙ same
    ]

pub returns : goal.returns
returns c =
    passes_end c.args.pass c.args.history.now.journal c.loop-n.n c.args.repo.now.files c.loop-n.repo.files c.last_change-n-end.ensures.numbered
    (omega (arith, c.loop-n-test.false, c.last_change-n-end.ensures.exact)) c.loop-n.invariant
