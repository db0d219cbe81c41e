-- Each later change that is kept is made in turn.
use Rattle.std.proofs.Common.{◌∙◌, ◌+◌, sym, ap, refl, arith}
use Rattle.keep_change.specs.Fold.{first_break, fold_of}
use Rattle.keep_journal.proofs.Kept.{kept_later}
use Rattle.keep_journal.specs.Kept.{later}
use Rattle.keep_opening.proofs.Remade.{Remakes, remade_all, remade_broken, remade_whole, remade_with, remade_without}
use Rattle.keep_opening.proofs.made_files.remake.Goals as goal
use Rattle.keep_opening.proofs.made_files.remake.Goals.{in-Some+in_ok-make_met+else-not-branch, in_default}

pub loop-n-init : goal.loop-n-init
loop-n-init c =
    let j = c.args.history.now.journal in
    let first = ap (later j) c.final_number-n.ensures ∙ kept_later j in
    record { break = ap (λ ns. first_break ns c.args.repo.now) first; fold = ap (λ ns. fold_of ns c.args.repo.now) first }

pub returns-then-not-branch-clause-broken : goal.returns-then-not-branch-clause-broken
returns-then-not-branch-clause-broken c is =
    let j = c.args.history.now.journal in
    remade_broken j c.loop-n.n (c.loop-n.n + 1) c.in-Some.change.now c.args.repo.now c.loop-n.repo c.last_change-n-end.ensures.numbered refl (sym c.in-Some.ensures.exact)
    (sym c.in_ok-make_met.ensures.met ∙ c.if-not-branch.true) c.loop-n.invariant

pub loop-n-preserved : goal.loop-n-preserved
loop-n-preserved c =
    let j = c.args.history.now.journal in
    elim c.match-kept_change.branch [
      | in-Some+in_ok-make_met+else-not-branch w ↦
          remade_with j c.loop-n.n (c.loop-n.n + 1) w.in-Some.change.now c.args.repo.now c.loop-n.repo c.match-kept_change.repo c.last_change-n-end.ensures.numbered refl
          (sym w.in-Some.ensures.exact) (sym w.in_ok-make_met.ensures.met ∙ w.if-not-branch.false) (w.repo-is ∙ w.in_ok-make_met.ensures.made w.if-not-branch.false) c.loop-n.invariant
      | in_default w ↦
          let same : Remakes j (c.loop-n.n + 1) c.args.repo.now c.loop-n.repo =
          remade_without j c.loop-n.n (c.loop-n.n + 1) c.args.repo.now c.loop-n.repo c.last_change-n-end.ensures.numbered refl
          (omega (arith, c.loop-n-test.true, c.last_change-n-end.ensures.exact)) (sym w.in_default.ensures.exact) c.loop-n.invariant in
          record { break = ap (first_break (later j (c.loop-n.n + 1))) w.repo-is ∙ same.break; fold = ap (fold_of (later j (c.loop-n.n + 1))) w.repo-is ∙ same.fold }
    ]

pub returns-clause-whole : goal.returns-clause-whole
returns-clause-whole c is =
    remade_whole c.args.history.now.journal c.loop-n.n c.args.repo.now c.loop-n.repo c.last_change-n-end.ensures.numbered
    (omega (arith, c.loop-n-test.false, c.last_change-n-end.ensures.exact)) c.loop-n.invariant

pub returns-clause-made : goal.returns-clause-made
returns-clause-made c is =
    remade_all c.args.history.now.journal c.loop-n.n c.args.repo.now c.loop-n.repo c.last_change-n-end.ensures.numbered
    (omega (arith, c.loop-n-test.false, c.last_change-n-end.ensures.exact)) c.loop-n.invariant
