-- Nothing is lost while reads give nothing.
use Rattle.std.proofs.Common.{◌≡◌}
use Rattle.std.specs.Io.KnownBytes.{Keeps}
use Rattle.keep_script.proofs.input.Input.fill.Given as goal

abbrev pub invariant-loop : goal.invariant-loop
invariant-loop g l = Keeps (g.R.Read.remaining l.initial.reader) (g.R.Read.remaining l.reader) × (l.self.bytes_left ≡ l.initial.self.bytes_left)
