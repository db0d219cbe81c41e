use Rattle.std.proofs.Common.{ap, ◌∙◌}
use Rattle.std.specs.FinMap as map
use Rattle.keep_names.proofs.Orders.{id_exact, id_total}
use Rattle.keep_repo.proofs.Maps.{one_put}
use Rattle.keep_repo.proofs.Parts.{with_marks}
use Rattle.keep_repo.specs.Repository.{Repository}
use Rattle.keep_repo.proofs.repo.Repo.insert_mark.Goals as goal

pub returns-clause-ok : goal.returns-clause-ok
returns-clause-ok c =
    ap (with_marks c.self.inside.files) (one_put id_total id_exact c.self.inside.marks.entries c.insert.new.self.entries c.args.pack c.args.mark c.in_ok-insert.ensures.updates.0)
    ∙ ap (λ (r : Repository). record r { marks = map.insert r.marks c.args.pack c.args.mark }) c.self.view_is
