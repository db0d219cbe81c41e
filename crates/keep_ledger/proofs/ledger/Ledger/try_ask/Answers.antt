-- The watches have room for one more event, and are told of it.
use Rattle.keep_ledger.proofs.Asking.{few_asked, room_of}
use Rattle.keep_ledger.proofs.Telling.{sums_either}
use Rattle.keep_ledger.proofs.Totals.{few_names, have_room}
use Rattle.keep_ledger.proofs.ledger.Ledger.try_ask.Goals as goal

pub make_and_tell-requires-clause-small : goal.make_and_tell-requires-clause-small
make_and_tell-requires-clause-small g c =
    λ κs within. have_room _ _ _ _ _ c.in_ok-check.ensures.open c.requires.sums (room_of c.args.self.now.state c.args.request c.in_ok-check.ensures.begins.free)

pub make_and_tell-requires-clause-few : goal.make_and_tell-requires-clause-few
make_and_tell-requires-clause-few g c =
    λ κs within. few_names _ _ _ _ (rw c.in_ok-outline.was at c.outline-outline.ensures) (few_asked c.args.self.now.state c.args.request c.in_ok-check.ensures.open c.in_ok-check.ensures.begins)

pub returns-clause-sums : goal.returns-clause-sums
returns-clause-sums g c =
    rw c.make_and_tell.ensures.armed
    (sums_either c.args.self.now c.args.request c.in_ok-check.ensures.open c.make_and_tell.new.self c.make_and_tell.result _ _ _ _ _
    c.requires.sums c.make_and_tell.ensures.enters (rw c.in_ok-outline.was at c.outline-outline.ensures) c.make_and_tell.ensures.told c.make_and_tell.ensures.untold)
