use Rattle.keep_targets.specs.Call.{MakeLink}
use Rattle.keep_putting.proofs.Care.{both, did}
use Rattle.keep_putting.proofs.Put.{link_is_own}
use Rattle.keep_putting.proofs.putting.put_link.Goals as goal

pub returns-clause-careful : goal.returns-clause-careful
returns-clause-careful g c = λ own.
    let place = c.args.place.now in
    let to = c.args.to.now in
    both _ _ _ (did _ _ (MakeLink place to) c.in_default.ensures own)
    (c.set_link_attributes.ensures.careful (link_is_own _ _ place to c.in_default.ensures))
