-- The order of facets: files by name, and then marks by pack. It is total, and only a facet ties with itself.
use Rattle.std.proofs.Common.{◌≡◌, true, ap}
use Rattle.std.specs.Cmp.{IsTotalOrder, tied_itself}
use Rattle.std.specs.FinMap.{IsAntisymmetric}
use Rattle.std.specs.Ordering.{is_eq}
use Rattle.std.proofs.lemmas.Map.Views.{tells_apart}
use Rattle.keep_names.proofs.Orders.{id_exact, name_exact}
use Rattle.keep_repo.specs.Facet.{facet_cmp, facet_eq}
use Rattle.keep_repo.specs.declared.facet.Facet.{Facet}
use Rattle.keep_repo.specs.declared.facet.Facet.TheVariants.{File, Mark}
use Rattle.keep_repo.specs.contracts.facet.FacetOrd.TheImpl.Laws as the_facet_laws

pub facet_total : IsTotalOrder facet_cmp
facet_total = the_facet_laws.total-law

pub facet_exact : IsAntisymmetric facet_cmp
facet_exact (File a) (File b) tied = ap File (name_exact a b tied)
facet_exact (Mark a) (Mark b) tied = ap Mark (id_exact a b tied)
facet_exact (File name) (Mark pack) tied = cc tied
facet_exact (Mark pack) (File name) tied = cc tied

pub facet_eq_same : (a b : Facet) → facet_eq a b ≡ true → a ≡ b
facet_eq_same = tells_apart facet_exact

pub facet_eq_refl : (a : Facet) → facet_eq a a ≡ true
facet_eq_refl a = ap is_eq (tied_itself facet_total a)
