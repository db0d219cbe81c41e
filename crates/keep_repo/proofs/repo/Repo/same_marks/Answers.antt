use Rattle.std.proofs.Common.{ap}
use Rattle.keep_names.proofs.Orders.{id_total}
use Rattle.keep_repo.proofs.Same.{Decides-along, apart-Decides, id_eq-Decides, made-Decides, mark_eq-Decides}
use Rattle.keep_repo.specs.Repository.{Repository}
use Rattle.keep_repo.proofs.repo.Repo.same_marks.Goals as goal

pub returns-then-len : goal.returns-then-len
returns-then-len c =
    let marks = λ (r : Repository). r.marks in
    Decides-along c.eq.result (ap marks c.self.view_is) (ap marks c.other.view_is)
    (made-Decides id_total id_eq-Decides mark_eq-Decides c.self.inside.marks c.other.inside.marks c.len.ensures.ordered c.len-2.ensures.ordered c.eq.result c.eq.ensures)

pub returns-else-len : goal.returns-else-len
returns-else-len c =
    let marks = λ (r : Repository). r.marks in
    Decides-along _ (ap marks c.self.view_is) (ap marks c.other.view_is)
    (apart-Decides id_total c.self.inside.marks c.other.inside.marks c.len.ensures.ordered c.len-2.ensures.ordered c.len.result c.len-2.result c.len.ensures.len c.len-2.ensures.len c.if-len.false)
