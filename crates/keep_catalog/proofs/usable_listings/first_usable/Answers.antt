use Rattle.keep_catalog.proofs.Single.{one_in_order}
use Rattle.keep_catalog.proofs.usable_listings.first_usable.Goals as goal

pub returns-in-One-clause-ordered : goal.returns-in-One-clause-ordered
returns-in-One-clause-ordered c = one_in_order c.args.listings.now c.in-One.field-0 c.in-One.is
