use Rattle.std.proofs.Common.{◌∙◌, Some, pos, ap, arith, subst, sym, w64, FitsSigned}
use mir.Syntax.{w128}
use Rattle.std.proofs.lemmas.Int.{to_z-of_z}
use Rattle.std.specs.Int.{int_div_euclid}
use Rattle.jiff_core.proofs.SignedLemmas.{signed_arith}
use Rattle.keep_snap.proofs.Moments.{in-timestamp, instant-fits, seconds-fit}
use Rattle.keep_snap.proofs.time.parse_moment.Goals as goal

pub overflow_cast-result : goal.overflow_cast-result
overflow_cast-result c =
    let instant = c.in_ok-time.time.instant in
    let held = in-timestamp c.args.text.now c.in_ok-time.time (sym c.parse_time.ensures ∙ c.in_ok-time.was) in
    let same = c.div_euclid.ensures ∙ ap (λ z. int_div_euclid z (pos 1_000_000_000)) (to_z-of_z w128 instant (instant-fits instant held)) in
    let fits : FitsSigned w64 c.div_euclid.result = subst (FitsSigned w64) (sym same) (seconds-fit instant held) in
    let wide : FitsSigned w128 c.div_euclid.result = omega (arith, signed_arith) in
    subst (FitsSigned w64) (sym (to_z-of_z w128 c.div_euclid.result wide)) fits

pub returns : goal.returns
returns c =
    let instant = c.in_ok-time.time.instant in
    let found = sym c.parse_time.ensures ∙ c.in_ok-time.was in
    let held = in-timestamp c.args.text.now c.in_ok-time.time found in
    let same = c.div_euclid.ensures ∙ ap (λ z. int_div_euclid z (pos 1_000_000_000)) (to_z-of_z w128 instant (instant-fits instant held)) in
    let fits : FitsSigned w64 c.div_euclid.result = subst (FitsSigned w64) (sym same) (seconds-fit instant held) in
    let wide : FitsSigned w128 c.div_euclid.result = omega (arith, signed_arith) in
    rw (found, to_z-of_z w128 c.div_euclid.result wide, to_z-of_z w64 c.div_euclid.result fits) (ap Some same)
