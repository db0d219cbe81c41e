use Rattle.std.proofs.Common.{arith}
use Rattle.std.proofs.lemmas.Int.{ints}
use Rattle.keep_snap.proofs.time.behind_by.Goals as goal

pub returns : goal.returns
returns c = omega (arith, ints)
