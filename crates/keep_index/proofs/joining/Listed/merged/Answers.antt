use Rattle.std.proofs.Common.{[], get_or, ap}
use Rattle.keep_names.specs.declared.id.Id.{Id}
use Rattle.keep_index.proofs.Gathered.{made_more}
use Rattle.keep_index.proofs.joining.Listed.merged.Goals as goal

abbrev no_id : Id
no_id = record { 0 = [] }

pub loop-id-preserved : goal.loop-id-preserved
loop-id-preserved c =
    let ids = c.deref-id-items.result.now in
    let i = c.loop-id.id-index in
    made_more c.args.self.now.blobs ids i no_id c.loop-id.packs.items c.push.new.self.items
    (record { id = get_or ids i no_id; blobs = c.in_ok-blobs.blobs })
    c.loop-id-test.true c.loop-id.invariant c.in_ok-push.ensures.items
    (ap (λ blobs. record { id = get_or ids i no_id; blobs = blobs }) c.in_ok-blobs.ensures)
