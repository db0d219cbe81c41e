use Rattle.std.proofs.Common.{sym, ◌∙◌, arith}
use Rattle.keep_script.proofs.FirstLine.{place-found, place-none, position_or_len-le}
use Rattle.keep_script.proofs.input.line_length.Goals as goal

pub returns-in-Some : goal.returns-in-Some
returns-in-Some c =
    let found = place-found c.args.bytes.now c.in-Some.place (sym c.line_end.ensures ∙ c.in-Some.is) in
    record { place = found; within = omega (arith, found, position_or_len-le c.args.bytes.now) }

pub returns-in-None : goal.returns-in-None
returns-in-None c =
    record { place = place-none c.args.bytes.now (sym c.line_end.ensures ∙ c.in-None.is); within = omega arith }
