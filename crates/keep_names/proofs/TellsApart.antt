-- An order that is total and in which only equal keys tie tells others apart.
use Rattle.std.proofs.Common.{ap, sym, ◌∙◌}
use Rattle.std.specs.Cmp.{IsTotalOrder, tied_itself}
use Rattle.std.specs.FinMap.{IsAntisymmetric}
use Rattle.std.specs.Ordering.{eq_by_cmp, is_eq}
use Rattle.std.specs.declared.cmp.Ordering.{Ordering}
use Rattle.std.proofs.lemmas.Map.Views.{tells_apart}
use Rattle.keep_names.specs.Laws.{TellsApart}

pub apart_from : {K : Type 0} {R : K → K → Ordering} → IsTotalOrder R → IsAntisymmetric R → TellsApart R
apart_from {K} {R} total exact a b =
    (tells_apart exact a b, λ same. ap (eq_by_cmp R a) (sym same) ∙ ap is_eq (tied_itself total a))
