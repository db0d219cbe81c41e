-- The trash of one change after another.
use Rattle.std.proofs.Common.{◌≡◌, ℕ, ◌+◌, ◌<◌, inl, inr, ◌∙◌, sym, subst, arith}
use Rattle.std.specs.FinMap as finite
use Rattle.std.proofs.lemmas.Bool.{cases_eq, cases_lt}
use Rattle.keep_journal.specs.History.{final_number}
use Rattle.keep_moves.specs.Standing.{trashed}
use Rattle.keep_shelf.specs.declared.key.Key.TheVariants.{Trash}
use Rattle.keep_opening.proofs.Trashed.{live_there, trash_here, trash_past, trash_there}
use Rattle.keep_opening.proofs.trash.put_trash.Goals as goal

pub loop-before-preserved : goal.loop-before-preserved
loop-before-preserved c =
    let j = c.args.history.now.journal in
    let n = c.loop-before.before + 1 in
    let above : final_number j < n = omega (arith, c.final_number-before.ensures, c.loop-before.auto.before) in
    let made = c.in_ok-put_trash_of.ensures above in
    record {
      done = λ m name low. elim (cases_eq m n) [
        | inl same ↦
            subst (λ (k : ℕ). finite.get c.put_trash_of.new.stock (Trash k name) ≡ trashed j k name) (sym same)
            (trash_here j n c.loop-before.stock c.put_trash_of.new.stock name c.requires.formed above made (c.loop-before.invariant.none n name (omega arith)))
        | inr other ↦
            trash_there j m n c.loop-before.stock c.put_trash_of.new.stock name other made ∙ c.loop-before.invariant.done m name (omega (arith, low, other))
      ];
      live = λ name. live_there j n c.loop-before.stock c.put_trash_of.new.stock name made ∙ c.loop-before.invariant.live name;
      none = λ m name high. trash_there j m n c.loop-before.stock c.put_trash_of.new.stock name (λ same. omega (arith, high, same)) made ∙ c.loop-before.invariant.none m name (omega (arith, high));
    }

pub returns-clause-trash : goal.returns-clause-trash
returns-clause-trash c n name =
    let j = c.args.history.now.journal in
    let last = c.last_change-before-end.ensures in
    elim (cases_lt c.loop-before.before n) [
      | inl past ↦ c.loop-before.invariant.none n name past ∙ sym (trash_past j n name last.numbered (omega (arith, past, last.exact, c.loop-before-test.false)))
      | inr within ↦ c.loop-before.invariant.done n name within
    ]
