use Rattle.std.proofs.Common.{◌≡◌, ◌∙◌, ◌++◌, ℕ, List, ap, arith, drop, length, take}
use Rattle.std.proofs.Math.Seq.{take-append_seam}
use Rattle.keep_threads.proofs.desk_crew.set_to_work.Goals as goal

-- a slice of the whole list is written back whole
whole : {A : Type 0} (new old : List A) (n : ℕ) → n ≡ length new → take n (new ++ drop (length new) old) ≡ new
whole new old n long = ap (λ k. take k (new ++ drop (length new) old)) long ∙ take-append_seam new (drop (length new) old)

pub returns-clause-all : goal.returns-clause-all
returns-clause-all g c =
    let new = c.run_crew.new.operators in
    let old = c.args.operators.items in
    let long : c.args.operators.len ≡ length new = omega (arith, c.as_mut_slice.ensures.len, ap length c.as_mut_slice.ensures.value) in
    rw (whole new old c.args.operators.len long) (omega (arith, c.as_mut_slice.ensures.len, ap length c.as_mut_slice.ensures.value))

pub returns-clause-worked : goal.returns-clause-worked
returns-clause-worked g c i d within =
    let new = c.run_crew.new.operators in
    let old = c.args.operators.items in
    let long : c.args.operators.len ≡ length new = omega (arith, c.as_mut_slice.ensures.len, ap length c.as_mut_slice.ensures.value) in
    let did = rw c.as_mut_slice.ensures.value at c.run_crew.ensures in
    rw (whole new old c.args.operators.len long) (did i d within)
