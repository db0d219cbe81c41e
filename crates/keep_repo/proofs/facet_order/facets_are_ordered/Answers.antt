use Rattle.std.proofs.Common.{refl}
use Rattle.keep_repo.proofs.facet_order.facets_are_ordered.Goals as goal

pub returns : goal.returns
returns c = record {
  files_first = λ name pack. refl;
  files_by_name = λ a b. refl;
  marks_by_pack = λ a b. refl;
}
