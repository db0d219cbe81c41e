use Rattle.std.proofs.Common.{◌++◌, ◌∙◌, refl, subst}
use Rattle.std.specs.Slice.Iter.{chunks_rest}
use Rattle.hex.specs.Hex.{encode_lower}
use Rattle.keep_rope.proofs.Digits.{all_digits, digits_more}
use Rattle.keep_disk.proofs.new_file.write_hex.Goals as goal

pub loop-part-preserved : goal.loop-part-preserved
loop-part-preserved g c =
    let steps = c.in-Some.ensures.steps in
    let part = c.in-Some.part.now in
    record {
      size = steps.0 ∙ c.loop-part.invariant.size;
      room = c.write_digits.auto.digits ∙ c.loop-part.invariant.room;
      rest = λ before held.
          let so_far = c.loop-part.invariant.rest before held in (
            so_far.0 ++ encode_lower part,
            c.in_ok-write_digits.ensures so_far.0 so_far.1,
            digits_more so_far.0 part (chunks_rest c.next.new.self) steps.1.0 refl ∙ so_far.2,
          );
    }

pub returns : goal.returns
returns g c = λ before held.
    let so_far = c.loop-part.invariant.rest before held in
    subst (g.F.NewFile.holds c.loop-part.file) (all_digits (chunks_rest c.loop-part.part-iterator) c.in-None.ensures.steps.1.0 so_far.2) so_far.1
