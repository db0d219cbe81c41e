-- What is armed stays.
use Rattle.std.proofs.Common.{◌≡◌, ◌∙◌, ℕ, List, ◌++◌, ap, arith, drop, length, take}
use Rattle.std.proofs.Math.Seq.{take-append_seam}
use Rattle.std.proofs.lemmas.List.{length-map}
use Rattle.keep_hooks.specs.Rules.{armed_of}
use Rattle.keep_book.proofs.hooks.HooksGuard.tell.Goals as goal

-- a slice of the whole list is written back whole
whole : {A : Type 0} (new old : List A) (n : ℕ) → n ≡ length new → take n (new ++ drop (length new) old) ≡ new
whole new old n long = ap (λ k. take k (new ++ drop (length new) old)) long ∙ take-append_seam new (drop (length new) old)

pub invariant_of-self : goal.invariant_of-self
invariant_of-self g c =
    let new = c.tell_all.new.watches in
    let old = c.args.self.now.watches.items in
    let same = rw c.as_mut_slice.ensures.value at c.tell_all.ensures.armed in
    let long : c.args.self.now.watches.len ≡ length new =
    omega (arith, c.as_mut_slice.ensures.len, ap length c.as_mut_slice.ensures.value, ap length same, length-map new armed_of, length-map old armed_of) in
    record { names = rw (whole new old c.args.self.now.watches.len long, same) c.args.self.now.names }
