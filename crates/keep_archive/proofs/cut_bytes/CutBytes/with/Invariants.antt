use Rattle.std.proofs.Common.{◌≤◌, ◌-◌, length, take}
use Rattle.keep_archive.specs.Cutting.{CutsOn}
use Rattle.keep_archive.proofs.cut_bytes.CutBytes.with.Given as goal

abbrev pub decreases-loop-start : goal.decreases-loop-start
decreases-loop-start l = length l.bytes - l.start

abbrev pub invariant-loop-start : goal.invariant-loop-start
invariant-loop-start l = record {
  within : l.start ≤ length l.bytes;
  cuts : CutsOn (take l.start l.bytes) l.fn.self l.done;
}
