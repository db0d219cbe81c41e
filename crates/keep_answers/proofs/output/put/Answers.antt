use Rattle.std.proofs.lemmas.Grind.{common_steps}
use Rattle.std.proofs.Common.{arith, Bor, ℕ, List, [], ◌++◌, ◌∙◌, sym, ap, take, append-nil}
use Rattle.std.proofs.KnownBytes.{Appends-kept, Appends-trans}
use Rattle.keep_answers.proofs.KnownLemmas.{AppendsPart-from, AppendsPart-more, AppendsPart-taken}
use Rattle.keep_answers.proofs.output.put.Goals as goal
use Rattle.keep_answers.proofs.output.put.Goals.{in-Ok, in-Err+else-ne}

pub returns-in-Ok-eq0-clause-puts : goal.returns-in-Ok-eq0-clause-puts
returns-in-Ok-eq0-clause-puts g c =
    let (done, split, appended) = c.loop.invariant in
    let rest = c.loop.rest.now in
    AppendsPart-more _ _ _ _ done rest [] (split ∙ ap (λ l. done ++ l) (sym (append-nil rest))) appended (AppendsPart-taken _ _ rest c.in-Ok-eq0.field-0 c.in-Ok-eq0.ensures.bytes)

pub returns-then-ne-clause-puts : goal.returns-then-ne-clause-puts
returns-then-ne-clause-puts g c =
    let (done, split, appended) = c.loop.invariant in
    AppendsPart-from _ _ _ done c.loop.rest.now split (Appends-kept _ _ _ done appended c.in-Err.ensures.bytes)

pub loop-preserved : goal.loop-preserved
loop-preserved g c =
    let (done, split, appended) = c.loop.invariant in
    let rest = c.loop.rest.now in
    elim c.match-write.branch [
      | in-Ok w ↦ (done ++ take w.in-Ok.count rest, split ∙ rw (ap (λ (r : Bor (List ℕ)). r.now) w.rest-is) (grind (arith, common_steps)), Appends-trans _ _ _ done _ appended w.in-Ok.ensures.bytes)
      | in-Err+else-ne w ↦ (done, split ∙ ap (λ (r : Bor (List ℕ)). done ++ r.now) (sym w.rest-is), Appends-kept _ _ _ done appended w.in-Err.ensures.bytes)
    ]

pub returns-clause-puts : goal.returns-clause-puts
returns-clause-puts g c =
    let (done, split, appended) = c.loop.invariant in
    AppendsPart-from _ _ _ done c.loop.rest.now split appended
