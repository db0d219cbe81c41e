use Rattle.std.proofs.Common.{◌≡◌, sym, ap, ◌∙◌, rules}
use Rattle.std.specs.FinMap as map
use Rattle.std.specs.Option.{option_copied, option_map}
use Rattle.keep_names.proofs.Orders.{id_total}
use Rattle.keep_repo.proofs.Maps.{get_made}
use Rattle.keep_repo.specs.Repository.{Repository}
use Rattle.keep_repo.specs.declared.facet.Mark as the_mark
use Rattle.keep_repo.proofs.repo.Repo.mark_of.Goals as goal

pub returns : goal.returns
returns c =
    let told : c.map.result ≡ option_map (λ (m : the_mark.Mark). m.moment) (option_copied c.get.result) = search rules in
    told
    ∙ ap (option_map (λ (m : the_mark.Mark). m.moment)) (c.get.ensures.value ∙ sym (get_made id_total c.self.inside.marks.entries c.args.pack)
    ∙ ap (λ (r : Repository). map.get r.marks c.args.pack) c.self.view_is)
