-- What was read so far begins what the reader had left.
use Rattle.std.specs.Io.KnownBytes.{Consumes}
use Rattle.keep_disk.proofs.disk_reading.read_rest.Given as goal

abbrev pub invariant-loop : goal.invariant-loop
invariant-loop g l = Consumes (g.F.Read.remaining l.initial.reader) (g.F.Read.remaining l.reader) l.bytes.items
