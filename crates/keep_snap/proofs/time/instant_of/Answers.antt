use Rattle.std.proofs.Common.{◌≡◌, pos, ◌+ℤ◌, ◌-ℤ◌, ◌*ℤ◌, FitsSigned, to_z, w32, arith}
use mir.Syntax.{w128}
use Rattle.jiff_core.proofs.SignedLemmas.{signed_arith}
use Rattle.std.proofs.lemmas.Int.{to_z-of_z, to_z_pos}
use Rattle.keep_snap.proofs.time.instant_of.Goals as goal

pub returns : goal.returns
returns c =
    let day = c.args.day in
    let seconds = c.args.seconds in
    let offset = c.args.offset in
    let nanoseconds = c.args.nanoseconds in
    let d : FitsSigned w32 c.args.day = c.ranges.day in
    let o : FitsSigned w32 c.args.offset = c.ranges.offset in
    let d2 : FitsSigned w128 c.args.day = omega (arith, signed_arith) in
    let o2 : FitsSigned w128 c.args.offset = omega (arith, signed_arith) in
    let s : to_z w128 c.args.seconds ≡ pos c.args.seconds = to_z_pos w128 c.args.seconds (omega arith) in
    let n : to_z w128 c.args.nanoseconds ≡ pos c.args.nanoseconds = to_z_pos w128 c.args.nanoseconds (omega arith) in
    let f1 : FitsSigned w128 (c.args.day *ℤ pos 86_400) = omega (arith, signed_arith) in
    let f2 : FitsSigned w128 ((c.args.day *ℤ pos 86_400) +ℤ pos c.args.seconds) = omega (arith, signed_arith) in
    let f3 : FitsSigned w128 (((c.args.day *ℤ pos 86_400) +ℤ pos c.args.seconds) -ℤ c.args.offset) = omega (arith, signed_arith) in
    let f4 : FitsSigned w128 ((((c.args.day *ℤ pos 86_400) +ℤ pos c.args.seconds) -ℤ c.args.offset) *ℤ pos 1_000_000_000) = omega (arith, signed_arith) in
    let f5 : FitsSigned w128 (((((c.args.day *ℤ pos 86_400) +ℤ pos c.args.seconds) -ℤ c.args.offset) *ℤ pos 1_000_000_000) +ℤ pos c.args.nanoseconds) = omega (arith, signed_arith) in
    simp (to_z-of_z, s, n)
