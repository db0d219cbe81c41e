use Rattle.std.proofs.Common.{refl}
use Rattle.keep_putting.proofs.Care.{both}
use Rattle.keep_putting.proofs.Put.{file_hurt, file_is_own}
use Rattle.keep_putting.proofs.putting.put_file.Goals as goal

pub returns-in-Err-clause-done : goal.returns-in-Err-clause-done
returns-in-Err-clause-done g c =
    file_hurt c.leave_out.result _ _ _ _ _ _ _ c.in-Err.hurt _ c.in-Err.ensures.hurt c.from.ensures refl refl c.leave_out.ensures.named

pub returns-clause-careful : goal.returns-clause-careful
returns-clause-careful g c = λ own.
    both _ _ _ (c.fill.ensures.careful own) (c.set_attributes.ensures.careful (file_is_own _ _ _ c.args.place.now c.in-Ok.ensures.filled))
