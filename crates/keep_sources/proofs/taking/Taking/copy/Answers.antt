use Rattle.std.proofs.Common.{◌≡◌, ◌∙◌, ◌+◌, take, length, ap, sym, subst, arith}
use Rattle.std.proofs.lemmas.List.{length-take}
use Rattle.keep_sources.proofs.Pieces.{copied_more}
use Rattle.keep_sources.specs.Given.{Wrote}
use Rattle.keep_sources.proofs.taking.Taking.copy.Goals as goal

pub reading-preserved : goal.reading-preserved
reading-preserved g c =
    let seen = g.A.Receives.seen in
    let gives = g.A.Receives.gives in
    let count = c.in-Ok.count in
    let piece = take count c.read.new.piece in
    let long : length piece ≡ count = grind (arith, length-take, c.in-Ok.ensures.fits) in
    let gave : gives (seen c.reading.self.archive) (Wrote piece) (seen c.write.new.self) =
    subst (λ x. gives x (Wrote piece) (seen c.write.new.self)) c.in_ok-make_room.ensures.same c.in_ok-write-in-Ok.ensures in (
      copied_more g.S.Source.told gives c.args.path.now (seen c.widen.new.self.archive) (seen c.reading.self.archive) (seen c.write.new.self) c.reading.size (c.reading.size + count) piece
          c.reading.invariant.0 c.in-Ok.ensures.read gave (ap (λ m. c.reading.size + m) (sym long)),
      c.in_ok-make_room.ensures.skipped ∙ c.reading.invariant.1,
    )
