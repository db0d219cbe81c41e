use Rattle.std.proofs.Common.{sym, ap, ◌∙◌, is_some}
use Rattle.std.specs.FinMap as map
use Rattle.keep_names.proofs.Orders.{id_total}
use Rattle.keep_repo.proofs.Maps.{get_made}
use Rattle.keep_repo.specs.Repository.{Repository}
use Rattle.keep_repo.proofs.repo.Repo.is_marked.Goals as goal

pub returns : goal.returns
returns c =
    c.contains_key.ensures
    ∙ ap is_some (sym (get_made id_total c.self.inside.marks.entries c.args.pack))
    ∙ ap (λ (r : Repository). is_some (map.get r.marks c.args.pack)) c.self.view_is
