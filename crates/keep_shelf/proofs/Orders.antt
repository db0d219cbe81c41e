-- The order of keys is total, only a key ties with itself, and it is the one that plain words say.
use Rattle.std.proofs.Common.{ℕ, refl, sym, ap, Ordering, Less}
use Rattle.std.specs.Cmp.{IsTotalOrder, nat_cmp_is, nat_cmp_total, tied_itself}
use Rattle.std.specs.FinMap.{IsAntisymmetric, nat_cmp-IsAntisymmetric}
use Rattle.std.specs.Ordering.{nat_cmp, ordering_then}
use Rattle.std.proofs.lemmas.Map.Lookups.{exact_pairs}
use Rattle.keep_names.proofs.Orders.{name_exact}
use Rattle.keep_names.specs.Orders.{name_cmp}
use Rattle.keep_names.specs.declared.file_name.FileName.{FileName}
use Rattle.keep_shelf.specs.Key.{KeysAreOrdered, key_cmp}
use Rattle.keep_shelf.specs.declared.key.Key.TheVariants.{Live, Trash, Entry}
use Rattle.keep_shelf.specs.contracts.key.KeyOrd.TheImpl.Laws as the_key_laws

pub key_total : IsTotalOrder key_cmp
key_total = the_key_laws.total-law

pub key_exact : IsAntisymmetric key_cmp
key_exact (Live a) (Live b) tied = ap Live (name_exact a b tied)
key_exact (Live a) (Trash n b) tied = cc tied
key_exact (Live a) (Entry k) tied = cc tied
key_exact (Trash m a) (Live b) tied = cc tied
key_exact (Trash m a) (Trash n b) tied =
    ap (λ (p : ℕ × FileName). Trash p.0 p.1)
    (exact_pairs nat_cmp name_cmp nat_cmp-IsAntisymmetric name_exact (m, a) (n, b) tied)
key_exact (Trash m a) (Entry k) tied = cc tied
key_exact (Entry j) (Live b) tied = cc tied
key_exact (Entry j) (Trash n b) tied = cc tied
key_exact (Entry j) (Entry k) tied = ap Entry (nat_cmp-IsAntisymmetric j k tied)

pub keys_are_ordered_lem : KeysAreOrdered
keys_are_ordered_lem = record {
  live_before_trash = λ live name n. refl;
  live_before_entries = λ live k. refl;
  trash_before_entries = λ n k name. refl;
  live_by_name = λ a b. refl;
  trash_by_number = λ m n a b below. ap (λ (r : Ordering). ordering_then r (name_cmp a b)) (sym (nat_cmp_is m n Less below));
  trash_by_name = λ n a b. ap (λ (r : Ordering). ordering_then r (name_cmp a b)) (tied_itself nat_cmp_total n);
  entries_by_number = λ j k below. sym (nat_cmp_is j k Less below);
}
