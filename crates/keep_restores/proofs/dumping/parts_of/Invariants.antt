use Rattle.std.proofs.Common.{◌≡◌, drop, map, take}
use Rattle.std.specs.List.{concat}
use Rattle.keep_read.specs.Contents.{joined}
use Rattle.keep_restores.specs.Dumping.{first_lost}
use Rattle.keep_restores.proofs.dumping.parts_of.Given as goal

abbrev pub invariant-loop-id : goal.invariant-loop-id
invariant-loop-id l = record {
  joined : concat (map (λ part. part.now) l.parts.items) ≡ joined l.catalog (take l.id-index l.content);
  had : first_lost l.catalog (drop l.id-index l.content) ≡ first_lost l.catalog l.content;
}
