use Rattle.std.proofs.Common.{arith}
use Rattle.jiff_core.proofs.SignedLemmas.{signed_arith}
use Rattle.keep_members.proofs.instant.seconds_of.Goals as goal

pub overflow_cast-result : goal.overflow_cast-result
overflow_cast-result c = omega (arith, signed_arith, c.args.instant.in_range.0, c.args.instant.in_range.1, c.as_nanosecond.ensures, c.div_euclid.ensures)

pub returns : goal.returns
returns c = omega (arith, signed_arith, c.args.instant.in_range.0, c.args.instant.in_range.1, c.as_nanosecond.ensures, c.div_euclid.ensures)
