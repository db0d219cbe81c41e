use Rattle.std.proofs.Common.{inr, sym}
use Rattle.keep_putting.proofs.Put.{still_made}
use Rattle.keep_putting.proofs.putting.finish.Goals as goal

pub returns-clause-careful : goal.returns-clause-careful
returns-clause-careful g c = λ made. c.set_attributes.ensures.careful (inr (made _ c.in-Some.place.now (sym c.in-Some.ensures)))

pub returns-clause-made : goal.returns-clause-made
returns-clause-made g c = λ made.
    still_made _ _ _ (c.set_attributes.ensures.careful (inr (made _ c.in-Some.place.now (sym c.in-Some.ensures)))) made
