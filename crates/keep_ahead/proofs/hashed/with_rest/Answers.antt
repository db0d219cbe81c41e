use Rattle.std.proofs.Common.{◌∙◌, ◌++◌, ap, map}
use Rattle.std.specs.Vec.{vec_len}
use Rattle.keep_names.specs.declared.id.Id.{Id}
use Rattle.keep_ahead.proofs.OwnIds.{joined_ids}
use Rattle.keep_ahead.proofs.hashed.with_rest.Goals as goal

pub returns : goal.returns
returns g c =
    ap (map (λ (id : Id). id.0)) c.in_ok-extend_from_slice.ensures.items
    ∙ ap (λ rest. map (λ (id : Id). id.0) (c.args.ids.items ++ rest)) c.deref.ensures.value
    ∙ joined_ids c.args.pieces.now (vec_len c.args.ids) c.len.result c.len.ensures c.args.ids.items c.in_ok-hashes.hashes.items c.requires.ids (c.in_ok-hashes.ensures)
