use Rattle.keep_names.proofs.Orders.{id_exact, id_total}
use Rattle.keep_repo.proofs.ByName.{same_ids}
use Rattle.keep_repo.proofs.Hashed.{hashed_put}
use Rattle.keep_repo.proofs.files.put.Goals as goal

pub returns-clause-ok : goal.returns-clause-ok
returns-clause-ok c =
    hashed_put id_total same_ids id_exact c.args.files.now.entries c.insert.new.self.entries c.args.id c.args.bytes
    c.in_ok-insert.ensures.updates.0
