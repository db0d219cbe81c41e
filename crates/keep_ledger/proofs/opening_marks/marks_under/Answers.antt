-- Each later change that is kept is taken back in turn, the last first.
use Rattle.std.proofs.Common.{◌-◌, ◌+◌, ap, sym, ◌∙◌, arith}
use Rattle.std.specs.FinMap as finite
use Rattle.std.specs.Prelude.{map}
use Rattle.keep_change.specs.Marks.{pack_mark}
use Rattle.keep_change.specs.Result.{put_marks, remove_marks}
use Rattle.keep_repo.specs.Repository.{Repository}
use Rattle.keep_ledger.proofs.Marking.{same_end, unfold_none, unfold_with, unfold_without}
use Rattle.keep_ledger.proofs.opening_marks.marks_under.Goals as goal
use Rattle.keep_ledger.proofs.opening_marks.marks_under.Goals.{in-Some+in_ok-unapply_marks, in_default}

pub loop-done-init : goal.loop-done-init
loop-done-init c =
    ap (λ (r : Repository). r.marks) c.in_ok-marks.ensures
    ∙ sym (ap (λ (r : Repository). r.marks) (unfold_none c.args.history.now.journal (c.last_change-last.result - 0) c.args.live.now
    c.last_change-last.ensures.numbered (omega (arith, c.last_change-last.ensures.exact))))

pub loop-done-preserved : goal.loop-done-preserved
loop-done-preserved c = elim c.match-kept_change.branch [
  | in-Some+in_ok-unapply_marks w ↦
      ap (λ (r : Repository). r.marks) (w.marks-is ∙ w.in_ok-unapply_marks.ensures.ok)
      ∙ ap (λ m. remove_marks w.in-Some.change.now.sets (put_marks w.in-Some.change.now.clears m)) c.loop-done.invariant
      ∙ sym (unfold_with c.args.history.now.journal (c.last_change-last.result - (c.loop-done.done + 1)) (c.last_change-last.result - c.loop-done.done)
      w.in-Some.change.now c.args.live.now c.last_change-last.ensures.numbered (omega (arith, c.saturating_sub-done-end.ensures)) (sym w.in-Some.ensures.exact))
  | in_default w ↦
      ap (λ (r : Repository). r.marks) w.marks-is
      ∙ c.loop-done.invariant
      ∙ sym (ap (λ (r : Repository). r.marks) (unfold_without c.args.history.now.journal (c.last_change-last.result - (c.loop-done.done + 1)) (c.last_change-last.result - c.loop-done.done)
      c.args.live.now c.last_change-last.ensures.numbered (omega (arith, c.saturating_sub-done-end.ensures)) (omega (arith, c.last_change-last.ensures.exact)) (sym w.in_default.ensures.exact)))
]

pub returns : goal.returns
returns c =
    let end = same_end c.args.history.now.journal c.last_change-last.result c.loop-done.done c.args.n c.args.live.now
    c.last_change-last.ensures.numbered c.last_change-last.ensures.exact (omega (arith, c.saturating_sub-done-end.ensures)) in
    rw (← ap (λ m. map pack_mark (finite.entries m)) (c.loop-done.invariant ∙ end)) c.marks_of.ensures
