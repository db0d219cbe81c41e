use Rattle.std.proofs.Common.{List, ℕ, take, subst}
use Rattle.keep_archive.specs.Cutting.{CutsOn}
use Rattle.keep_archive.proofs.Cuts.{both_cut}
use Rattle.keep_archive.proofs.cut_bytes.CutBytes.with.Goals as goal

pub loop-start-preserved : goal.loop-start-preserved
loop-start-preserved c = record {
  within = c.part_from-front.ensures.within;
  cuts = subst (λ (bytes : List ℕ). CutsOn bytes c.args.self c.in_ok-done.done) c.part_from-front.ensures.front
      (both_cut (take c.loop-start.start c.args.bytes.now) c.part_from-front.result.now c.args.self c.loop-start.done c.in_ok-done.done
      c.loop-start.invariant.cuts c.in_ok-done.ensures);
}
