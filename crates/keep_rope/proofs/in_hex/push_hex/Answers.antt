use Rattle.std.proofs.Common.{◌∙◌}
use Rattle.std.specs.Slice.Iter.{chunks_rest}
use Rattle.keep_rope.proofs.Digits.{all_digits, digits_more}
use Rattle.keep_rope.proofs.in_hex.push_hex.Goals as goal

pub loop-piece-preserved : goal.loop-piece-preserved
loop-piece-preserved c =
    let steps = c.in-Some.ensures.steps in
    record {
      size = steps.0 ∙ c.loop-piece.invariant.size;
      rest = digits_more c.loop-piece.text.items c.in-Some.piece.now (chunks_rest c.next.new.self) steps.1.0 c.in_ok-push_digits.ensures
          ∙ c.loop-piece.invariant.rest;
    }

pub returns : goal.returns
returns c = all_digits (chunks_rest c.loop-piece.piece-iterator) c.in-None.ensures.steps.1.0 c.loop-piece.invariant.rest
