use Rattle.std.proofs.Common.{◌≡◌, ◌⊎◌, Err, Ok, inl, inr, length, sym, ap, ◌∙◌, arith}
use Rattle.std.proofs.lemmas.Result.{err_from_is_err_and}
use Rattle.std.proofs.KnownBytes.{Consumes-kept, Keeps-trans}
use Rattle.keep_script.specs.declared.status.Stop.{Stop}
use Rattle.keep_script.specs.declared.status.Stop.TheVariants.{BadLine, NoMemory}
use Rattle.keep_lines.specs.declared.mistake.Mistake.TheVariants.{TooLong}
use Rattle.keep_script.proofs.NextLine.{Consumes-gathered, Consumes-met, none-gathered, too_long_so_far, used-gathered}
use Rattle.keep_script.specs.Input.{EndsReading, unread_of}
use Rattle.keep_script.specs.Line.{HasLineEnd}
use Rattle.keep_script.proofs.input.Input.next_line.Goals as goal

-- what keeps a line from being gathered doesn't end the reading
gathers_on : (stop : Stop) → EndsReading stop → (stop ≡ BadLine TooLong) ⊎ (stop ≡ NoMemory) → ⊥
gathers_on stop (inl failed) (inl long) = cc (sym failed ∙ long)
gathers_on stop (inl failed) (inr none) = cc (sym failed ∙ none)
gathers_on stop (inr past) (inl long) = cc (sym past ∙ long)
gathers_on stop (inr past) (inr none) = cc (sym past ∙ none)

pub returns-in_err-move_line-clause-too_long : goal.returns-in_err-move_line-clause-too_long
returns-in_err-move_line-clause-too_long g c why bad =
    let line = c.loop-turn.line.items in
    let split = Consumes-kept _ _ _ line c.loop-turn.invariant.taken c.in_ok-look_ahead.ensures.kept in
    let passed = err_from_is_err_and c.from_residual-in_err-move_line.result c.from_residual-in_err-move_line.ensures.1 in
    let same : c.in_err-move_line.field-0.0 ≡ BadLine why = cc (passed.1, passed.2, bad) in
    let cause : why ≡ TooLong = elim c.in_err-move_line.ensures.reason [ inl long ↦ cc (sym same ∙ long) | inr none ↦ cc (sym same ∙ none) ] in
    let long = c.in_err-move_line.ensures.too_long (ap Err (same ∙ ap BadLine cause)) in
    (cause, too_long_so_far _ _ line (unread_of c.look_ahead.new.self) _ split c.loop-turn.invariant.none (omega (arith, long, c.loop-turn.line.ok.0)))

pub returns-in_err-look_ahead-clause-failed : goal.returns-in_err-look_ahead-clause-failed
returns-in_err-look_ahead-clause-failed g c =
    let line = c.loop-turn.line.items in
    let passed = err_from_is_err_and c.from_residual.result c.from_residual.ensures.1 in
    rw (passed.1 ∙ ap Err passed.2) (λ ends. (line, c.loop-turn.invariant.none, Consumes-kept _ _ _ line c.loop-turn.invariant.taken (c.in_err-look_ahead.ensures.failed ends)))

pub returns-in_err-move_line-clause-failed : goal.returns-in_err-move_line-clause-failed
returns-in_err-move_line-clause-failed g c =
    let passed = err_from_is_err_and c.from_residual-in_err-move_line.result c.from_residual-in_err-move_line.ensures.1 in
    rw (passed.1 ∙ ap Err passed.2) (λ ends. absurd (gathers_on _ ends c.in_err-move_line.ensures.reason))

pub returns-then-branch-clause-taken : goal.returns-then-branch-clause-taken
returns-then-branch-clause-taken g c =
    let line = c.loop-turn.line.items in
    let unread = unread_of c.look_ahead.new.self in
    let split = Consumes-kept _ _ _ line c.loop-turn.invariant.taken c.in_ok-look_ahead.ensures.kept in
    let some = c.in_ok-move_line.ensures.met.0 c.if-branch.true in (
      none-gathered line unread _ c.loop-turn.invariant.none c.in_ok-move_line.ensures.moved,
      Consumes-met _ _ line unread _ _ split some c.in_ok-move_line.ensures.moved c.in_ok-move_line.ensures.rest,
    )

pub loop-turn-preserved : goal.loop-turn-preserved
loop-turn-preserved g c =
    let line = c.loop-turn.line.items in
    let unread = unread_of c.look_ahead.new.self in
    let split = Consumes-kept _ _ _ line c.loop-turn.invariant.taken c.in_ok-look_ahead.ensures.kept in
    let missing : HasLineEnd unread → ⊥ = λ h. cc (sym c.if-branch.false ∙ c.in_ok-move_line.ensures.met.1 h) in
    let moved = c.in_ok-move_line.ensures.moved in
    let rest = c.in_ok-move_line.ensures.rest in
    let used = used-gathered line unread c.move_line.new.line.items (unread_of c.move_line.new.self) missing moved rest in
    let some = c.in_ok-look_ahead.ensures.some (ap Ok c.if-not-branch.false) in
    record {
      taken = Consumes-gathered _ _ line unread _ _ split missing moved rest;
      none = none-gathered line unread _ c.loop-turn.invariant.none moved;
      short = c.in_ok-move_line.ensures.short;
      spent = omega (arith, ap length used.0, used.1, c.in_ok-move_line.ensures.same, c.in_ok-look_ahead.ensures.ahead, c.loop-turn.invariant.spent, c.loop-turn.line.ok.0, c.move_line.new.line.ok.0);
      grown = omega (arith, used.1, some, c.loop-turn.invariant.grown, c.loop-turn.line.ok.0, c.move_line.new.line.ok.0);
      used = λ _. used.0;
      quiet = Keeps-trans _ _ _ c.loop-turn.invariant.quiet c.look_ahead.ensures.quiet;
    }
