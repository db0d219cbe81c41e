use Rattle.std.proofs.Common.{Some, rules}
use Rattle.keep_catalog.proofs.Relisted.{unlisted_last, unlisted_none, unlisted_one}
use Rattle.keep_catalog.proofs.listed.unlist_place.Goals as goal

pub returns-in_default : goal.returns-in_default
returns-in_default c =
    unlisted_none c.args.place c.args.index c.args.listed.now c.remove.new.self c.remove.new.self c.remove.ensures.updates.0 (search rules)

pub returns-in_ok-insert : goal.returns-in_ok-insert
returns-in_ok-insert c =
    unlisted_one c.args.place c.args.index c.args.listed.now c.remove.new.self c.insert.new.self c.remove.ensures.updates.0
    c.in-Some.listings (Some c.in-Some-without.left) (search rules) c.in-Some-without.ensures c.in_ok-insert.ensures.updates.0

pub returns-in_default-without : goal.returns-in_default-without
returns-in_default-without c =
    unlisted_last c.args.place c.args.index c.args.listed.now c.remove.new.self c.remove.new.self c.remove.ensures.updates.0
    c.in-Some.listings c.without.result (search rules) c.without.ensures (search rules)
