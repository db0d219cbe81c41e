use Rattle.std.proofs.Common.{[], ◌++◌, ap, ◌∙◌}
use Rattle.std.specs.Option.{option_map_or}
use Rattle.keep_index.proofs.Gathered.{more_kept, put_behind}
use Rattle.keep_index.proofs.joining.add_blobs.Goals as goal

pub returns : goal.returns
returns c =
    let behind = put_behind c.remove.result c.new.result c.unwrap_or-of_pack.result c.extend_from_slice.new.self c.args.more.now c.new.ensures.items c.unwrap_or-of_pack.ensures c.in_ok-extend_from_slice.ensures.items in
    more_kept c.args.pack c.args.more.now c.args.blobs.now c.remove.new.self c.insert.new.self c.extend_from_slice.new.self
    c.remove.ensures.updates.0 c.in_ok-insert.ensures.updates.0
    (behind ∙ ap (λ o. option_map_or (λ kept. kept.items) o [] ++ c.args.more.now) c.remove.ensures.value)
