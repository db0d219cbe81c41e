use Rattle.std.proofs.Common.{rules}
use Rattle.keep_catalog.proofs.Hashes.{one_hashed, stored_stays}
use Rattle.keep_catalog.proofs.batches.note.Goals as goal

pub returns-in_ok-insert-clause-stored : goal.returns-in_ok-insert-clause-stored
returns-in_ok-insert-clause-stored c r before =
    stored_stays r c.args.stored.now c.insert.new.self c.args.place c.args.is_honest c.in_ok-insert.ensures.updates.0 (search rules) before

pub returns-in_ok-insert-clause-hashed : goal.returns-in_ok-insert-clause-hashed
returns-in_ok-insert-clause-hashed c r is before =
    one_hashed r c.args.stored.now c.insert.new.self c.args.place c.args.is_honest c.in_ok-insert.ensures.updates.0 is before
