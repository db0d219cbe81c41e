use Rattle.std.proofs.Common.{map, ap, ◌∙◌}
use Rattle.keep_index.specs.Index.{pack_view}
use Rattle.keep_upkeep.specs.Repair.{header_listed}
use Rattle.keep_upkeep.proofs.RepairPlanned.{headers_listed}
use Rattle.keep_upkeep.proofs.repair.packs_there.Goals as goal

pub returns : goal.returns
returns c =
    ap (map pack_view) c.in_ok-packs.ensures ∙ headers_listed c.in_ok-headers.headers.items
    ∙ ap (map header_listed) c.in_ok-headers.ensures
