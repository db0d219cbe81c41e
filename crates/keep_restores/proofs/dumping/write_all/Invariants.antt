use Rattle.std.proofs.Common.{◌≡◌, ◌-◌, ◌^◌, length, map, min, take}
use Rattle.std.specs.Io.KnownBytes.{Appends}
use Rattle.std.specs.List.{concat}
use Rattle.keep_restores.proofs.dumping.write_all.Given as goal

abbrev pub invariant-loop-part : goal.invariant-loop-part
invariant-loop-part g l =
    let done = concat (map (λ part. part.now) (take l.part-index l.parts)) in record {
      written : Appends (g.W.Write.contents l.initial.writer) (g.W.Write.contents l.writer) done;
      size : l.written ≡ min (length done) (2 ^ 64 - 1);
    }
