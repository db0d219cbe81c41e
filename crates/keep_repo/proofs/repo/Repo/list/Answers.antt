use Rattle.std.proofs.Common.{◌≡◌, sym, ap, ◌∙◌, rules}
use Rattle.std.specs.FinMap as map
use Rattle.std.specs.Map.{keys_of}
use Rattle.keep_names.proofs.Orders.{id_total}
use Rattle.keep_repo.proofs.Maps.{keys_made}
use Rattle.keep_repo.specs.Repository.{Repository}
use Rattle.keep_repo.proofs.repo.Repo.list.Goals as goal

pub returns-clause-marks : goal.returns-clause-marks
returns-clause-marks c =
    let listed : c.in_ok-packs.packs.items ≡ keys_of c.self.inside.marks.entries = search rules in
    listed ∙ sym (keys_made id_total c.self.inside.marks.entries c.keys.ensures.ordered)
    ∙ ap (λ (r : Repository). map.keys r.marks) c.self.view_is
