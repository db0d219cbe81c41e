-- The order of rests tells them apart.
use Rattle.std.proofs.Common.{ℕ, ap, sym, ◌∙◌}
use Rattle.std.specs.Cmp.{tied_itself}
use Rattle.std.specs.FinMap.{IsAntisymmetric, nat_cmp-IsAntisymmetric, slice_cmp-IsAntisymmetric}
use Rattle.std.specs.Ordering.{eq_by_cmp, is_eq, nat_cmp}
use Rattle.std.proofs.lemmas.Map.Lookups.{exact_pairs}
use Rattle.std.proofs.lemmas.Map.Views.{tells_apart}
use Rattle.keep_names.specs.Laws.{TellsApart}
use Rattle.keep_patterns.specs.RestOrder.{rest_cmp, rests_cmp, rests_total}

rest_exact : IsAntisymmetric rest_cmp
rest_exact a b tied =
    ap (λ (p : ℕ × ℕ). record { pattern = p.0; used = p.1 })
    (exact_pairs nat_cmp nat_cmp nat_cmp-IsAntisymmetric nat_cmp-IsAntisymmetric (a.pattern, a.used) (b.pattern, b.used) tied)

pub rests_apart : TellsApart rests_cmp
rests_apart a b =
    (tells_apart (slice_cmp-IsAntisymmetric rest_exact) a b, λ same. ap (eq_by_cmp rests_cmp a) (sym same) ∙ ap is_eq (tied_itself rests_total a))
