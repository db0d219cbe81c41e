use Rattle.std.proofs.Common.{◌≡◌, ◌++◌, ◌∙◌, ap, IfOk, Ok, Err, Result}
use Rattle.keep_rope.specs.Pieces.{joined}
use Rattle.keep_rope.specs.declared.piece.Piece.TheVariants.{Plain}
use Rattle.keep_rope.proofs.Joined.{plain_ended}
use Rattle.keep_rope.proofs.rope_writer.RopeWriter.finish.Goals as goal

-- what an answer is, in other words
same_answer : {A E : Type 0} {x y : A} (r : Result A E) → x ≡ y → IfOk r (λ made. made ≡ x) → IfOk r (λ made. made ≡ y)
same_answer (Ok made) e h = h ∙ e
same_answer (Err why) e h = h

pub returns : goal.returns
returns c =
    same_answer c.of_pieces.result
    (ap joined c.shrink_to_fit-2.ensures.items
    ∙ plain_ended c.self.inside.pieces.items c.self.inside.plain.items (Plain c.shrink_to_fit.new.self) c.shrink_to_fit.ensures.items c.in_ok-push.ensures.items
    ∙ c.self.view_is)
    c.of_pieces.ensures
