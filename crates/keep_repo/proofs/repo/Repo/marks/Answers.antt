-- The entries of the map are those of the marks, in order.
use Rattle.std.proofs.Common.{◌≡◌, List, length, map, rules, tests, sym, ap, ◌∙◌, vec_items, vec_len}
use Rattle.std.specs.FinMap as finite
use Rattle.std.proofs.lemmas.Iterator.{YieldsList-from_map}
use Rattle.std.proofs.lemmas.Iterator.Adapters.{fact_from_collect}
use Rattle.std.proofs.lemmas.Iterator.Consumers.{YieldsList-at, YieldsList-from_rest}
use Rattle.std.proofs.lemmas.List.{map-id}
use Rattle.std.proofs.lemmas.Result.{IfOk-weaker}
use Rattle.keep_names.proofs.Orders.{id_total}
use Rattle.keep_names.specs.declared.id.Id.{Id}
use Rattle.keep_repo.proofs.Maps.{entries_made}
use Rattle.keep_repo.specs.Repository.{Repository}
use Rattle.keep_repo.specs.declared.facet.Mark as the_mark
use Rattle.keep_repo.proofs.repo.Repo.marks.Goals as goal

pub returns : goal.returns
returns c =
    let marks = c.self.inside.marks in
    let found : List (Id × the_mark.Mark) = map (λ (e : Id × the_mark.Mark). e) marks.entries in
    let same : found ≡ finite.entries c.args.self.now.marks =
    map-id marks.entries ∙ sym (entries_made id_total marks.entries c.iter.ensures.ordered)
    ∙ ap (λ (r : Repository). finite.entries r.marks) c.self.view_is in
    IfOk-weaker c.collect.result (λ listed. (vec_items listed ≡ found) × (vec_len listed ≡ length found)) (λ listed. vec_items listed ≡ finite.entries c.args.self.now.marks) (λ listed told. told.0 ∙ same)
    (fact_from_collect (λ found listed. (vec_items listed ≡ found) × (vec_len listed ≡ length found)) c.collect.result c.collect.ensures.ran
    (YieldsList-from_map _ (λ (e : Id × the_mark.Mark). e) (YieldsList-at c.map.ensures.source (YieldsList-from_rest marks.entries c.iter.ensures.rest)) c.map.ensures.closure (λ x r q k. search (rules, tests))))
