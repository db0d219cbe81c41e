use Rattle.std.proofs.Common.{◌∙◌, ap, sym, subst}
use Rattle.std.proofs.lemmas.Iterator.{YieldsList-from_zip}
use Rattle.std.proofs.lemmas.Iterator.Adapters.{YieldsList-from_vec}
use Rattle.std.proofs.lemmas.Iterator.Consumers.{YieldsList-turn}
use Rattle.std.proofs.lemmas.List.Elements.{All-get_or}
use Rattle.keep_names.specs.Sha256.{sha256}
use Rattle.keep_ahead.proofs.OwnIds.{IsOwn, all_own}
use Rattle.keep_ahead.proofs.hashed.with_ids.Goals as goal

pub of-requires : goal.of-requires
of-requires c =
    let turn = YieldsList-turn (YieldsList-from_zip (YieldsList-from_vec c.args.pieces.items (cc) (cc)) (YieldsList-from_vec c.args.ids.items (cc) (cc)))
    c.loop-bytes.yielded c.loop-bytes.bytes-iterator c.loop-bytes.yielded_by c.next.result c.next.new.self (c.in-Some.bytes, c.in-Some.id) c.in-Some.is c.next.ensures.steps in
    let own : IsOwn (c.in-Some.bytes, c.in-Some.id) = subst IsOwn (sym turn.1) (All-get_or IsOwn _ _ _ turn.0 (all_own c.args.pieces.items c.args.ids.items c.requires)) in
    own ∙ ap sha256 (sym c.in_ok-from_vec.ensures)
