use Rattle.std.proofs.Common.{ap, ◌∙◌}
use Rattle.std.specs.FinMap as map
use Rattle.keep_names.proofs.Orders.{id_exact, id_total}
use Rattle.keep_repo.proofs.Maps.{one_removed}
use Rattle.keep_repo.proofs.Parts.{with_marks}
use Rattle.keep_repo.specs.Repository.{Repository}
use Rattle.keep_repo.proofs.repo.Repo.remove_mark.Goals as goal

pub returns : goal.returns
returns c =
    ap (with_marks c.self.inside.files) (one_removed id_total id_exact c.self.inside.marks.entries c.remove.new.self.entries c.args.pack c.remove.ensures.updates.0)
    ∙ ap (λ (r : Repository). record r { marks = map.remove r.marks c.args.pack }) c.self.view_is
