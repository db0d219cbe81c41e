-- Each kept change is taken back in turn, the last first.
use Rattle.std.proofs.Common.{◌≡◌, ◌∙◌, ◌+◌, ◌-◌, ℕ, sym, ap, arith}
use Rattle.keep_journal.specs.History.{final_number}
use Rattle.keep_journal.specs.Opening.{unfold_of}
use Rattle.keep_journal.proofs.Kept.{kept_later}
use Rattle.keep_opening.proofs.Unmade.{filed, under, unmade_none, unmade_with, unmade_without}
use Rattle.keep_opening.proofs.made_files.unmake.Goals as goal
use Rattle.keep_opening.proofs.made_files.unmake.Goals.{in-Some+in_ok-take_back, in_default}

pub loop-done-init : goal.loop-done-init
loop-done-init c =
    unmade_none c.args.history.now.journal (c.last_change-last.result - 0) c.args.repo.now c.last_change-last.ensures.numbered (omega (arith, c.last_change-last.ensures.exact))

pub loop-done-preserved : goal.loop-done-preserved
loop-done-preserved c =
    let j = c.args.history.now.journal in
    elim c.match-kept_change.branch [
      | in-Some+in_ok-take_back w ↦
          unmade_with j (c.last_change-last.result - (c.loop-done.done + 1)) (c.last_change-last.result - c.loop-done.done) w.in-Some.change.now c.args.repo.now c.loop-done.repo c.match-kept_change.repo
          c.last_change-last.ensures.numbered (omega (arith, c.saturating_sub-done-end.ensures)) (sym w.in-Some.ensures.exact) c.loop-done.invariant (w.repo-is ∙ w.in_ok-take_back.ensures)
      | in_default w ↦
          w.repo-is ∙ c.loop-done.invariant
          ∙ unmade_without j (c.last_change-last.result - (c.loop-done.done + 1)) (c.last_change-last.result - c.loop-done.done) c.args.repo.now
          c.last_change-last.ensures.numbered (omega (arith, c.saturating_sub-done-end.ensures)) (omega (arith, c.last_change-last.ensures.exact)) (sym w.in_default.ensures.exact)
    ]

pub returns : goal.returns
returns c =
    let j = c.args.history.now.journal in
    let last = c.last_change-last.ensures in
    let top = last.numbered.last_final in
    let number : c.last_change-last.result - c.loop-done.done ≡ final_number j = omega (arith, last.exact, top, c.saturating_sub-done-end.ensures, c.final_number.ensures) in
    c.loop-done.invariant ∙ ap (filed c.args.repo.now) (ap (λ (n : ℕ). under j n c.args.repo.now) number ∙ ap (λ ns. (unfold_of ns c.args.repo.now).files) (kept_later j))
