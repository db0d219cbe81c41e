use Rattle.std.proofs.Common.{sym, ap, ◌∙◌}
use Rattle.std.specs.FinMap as map
use Rattle.keep_names.proofs.Orders.{id_total}
use Rattle.keep_repo.proofs.Maps.{len_made}
use Rattle.keep_repo.specs.Repository.{Repository}
use Rattle.keep_repo.proofs.repo.Repo.mark_count.Goals as goal

pub returns : goal.returns
returns c =
    c.len.ensures.len ∙ sym (len_made id_total c.self.inside.marks.entries c.len.ensures.ordered)
    ∙ ap (λ (r : Repository). map.len r.marks) c.self.view_is
