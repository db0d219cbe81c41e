use Rattle.std.proofs.Common.{◌≡◌, ◌+◌, ◌-◌, ◌<◌, ◌≤◌, [], length, get_or, false, refl, sym, ap₂, ⊎_elim, ◌∙◌, arith}
use Rattle.std.proofs.lemmas.Bool.{cases_lt}
use Rattle.keep_backup.specs.Files.{paths_seen}
use Rattle.keep_backup.specs.Paths.{is_front}
use Rattle.keep_backup.proofs.Fronts.{front_at, length-paths_seen, stand_in_order}
use Rattle.keep_backup.proofs.Neighbours.{in_order_no_clash, neighbours_clash}
use Rattle.keep_backup.proofs.paths.have_clash.Goals as goal

pub returns-then-starts_with-clause-clash : goal.returns-then-starts_with-clause-clash
returns-then-starts_with-clause-clash c =
    let ps = paths_seen 0 c.args.files.now in
    let i = c.loop-i.i in
    let front = front_at c.args.files.now i [] c.index-files-i-in-loop-i.result c.index-files-i.result c.deref-in-loop-i.result.now c.deref.result.now c.starts_with.result (omega arith) c.loop-i-test.true c.deref-in-loop-i.ensures.value c.deref.ensures.value c.starts_with.ensures.value in
    let next : i ≡ i - 1 + 1 = omega arith in
    let within : i - 1 + 1 < length ps = omega (arith, length-paths_seen 0 c.args.files.now) in
    sym (neighbours_clash ps (i - 1) [] within (ap₂ (λ a b. is_front (get_or ps a []) (get_or ps b [])) refl (sym next) ∙ front ∙ c.if-starts_with.true))

pub loop-i-preserved : goal.loop-i-preserved
loop-i-preserved c = λ k d lt.
    let ps = paths_seen 0 c.args.files.now in
    let i = c.loop-i.i in
    let front = front_at c.args.files.now i d c.index-files-i-in-loop-i.result c.index-files-i.result c.deref-in-loop-i.result.now c.deref.result.now c.starts_with.result (omega arith) c.loop-i-test.true c.deref-in-loop-i.ensures.value c.deref.ensures.value c.starts_with.ensures.value in
    let Apart : Type 0 = is_front (get_or ps k d) (get_or ps (k + 1) d) ≡ false in
    let before : k + 1 < i → Apart = λ h. c.loop-i.invariant k d h in
    let here : i ≤ k + 1 → Apart = λ h.
    let at : k ≡ i - 1 = omega arith in
    let next : k + 1 ≡ i = omega arith in
    ap₂ (λ a b. is_front (get_or ps a d) (get_or ps b d)) at next ∙ front ∙ c.if-starts_with.false
    in
    ⊎_elim before here (cases_lt (k + 1) i)

pub returns-clause-clash : goal.returns-clause-clash
returns-clause-clash c =
    sym (in_order_no_clash (paths_seen 0 c.args.files.now) (stand_in_order c.args.files.now c.requires.sorted (λ k d lt. c.loop-i.invariant k d (omega arith))))

pub returns-clause-in_order : goal.returns-clause-in_order
returns-clause-in_order c = stand_in_order c.args.files.now c.requires.sorted (λ k d lt. c.loop-i.invariant k d (omega arith))
