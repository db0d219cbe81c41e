use Rattle.std.proofs.Common.{ap, ◌∙◌}
use Rattle.keep_names.proofs.Orders.{id_exact, id_total}
use Rattle.keep_repo.proofs.ByName.{same_ids}
use Rattle.keep_repo.proofs.Hashed.{hashed_removed}
use Rattle.keep_repo.specs.Files.{by_id}
use Rattle.keep_repo.proofs.files.remove_id.Goals as goal

pub returns-then-used-capacity : goal.returns-then-used-capacity
returns-then-used-capacity c =
    ap by_id c.shrink_to.ensures.entries
    ∙ hashed_removed id_total same_ids id_exact c.args.files.now.entries c.swap_remove.new.self.entries c.args.id
    c.swap_remove.ensures.updates.0

pub returns-else-used-capacity : goal.returns-else-used-capacity
returns-else-used-capacity c =
    hashed_removed id_total same_ids id_exact c.args.files.now.entries c.swap_remove.new.self.entries c.args.id
    c.swap_remove.ensures.updates.0
