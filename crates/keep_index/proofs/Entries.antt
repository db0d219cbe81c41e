-- The order of entries is total, and only equal ones tie.
use Rattle.std.proofs.Common.{ℕ, ap}
use Rattle.std.proofs.lemmas.Map.Lookups.{exact_pairs}
use Rattle.std.specs.Cmp.{IsEquivalence, IsTotalOrder, eq_by_cmp_equiv}
use Rattle.std.specs.FinMap.{IsAntisymmetric, nat_cmp-IsAntisymmetric}
use Rattle.std.specs.Ordering.{nat_cmp, ordering_then}
use Rattle.keep_names.proofs.Orders.{blob_exact, id_total}
use Rattle.keep_names.proofs.TellsApart.{apart_from}
use Rattle.keep_names.specs.Laws.{TellsApart}
use Rattle.keep_names.specs.Orders.{blob_cmp}
use Rattle.keep_names.specs.declared.blob.BlobId.{BlobId}
use Rattle.keep_names.specs.contracts.blob.BlobOrd.TheImpl.Laws as the_entry_laws
use Rattle.keep_index.specs.Joining.{entry_cmp, same_entry, same_id}

entry_total : IsTotalOrder entry_cmp
entry_total = the_entry_laws.total-law

entry_exact : IsAntisymmetric entry_cmp
entry_exact a b tied =
    ap (λ (p : BlobId × (ℕ × ℕ)). record { blob = p.0; offset = p.1.0; length = p.1.1 })
    (exact_pairs blob_cmp (λ (x y : ℕ × ℕ). ordering_then (nat_cmp x.0 y.0) (nat_cmp x.1 y.1)) blob_exact (exact_pairs nat_cmp nat_cmp nat_cmp-IsAntisymmetric nat_cmp-IsAntisymmetric) (a.blob, (a.offset, a.length)) (b.blob, (b.offset, b.length)) tied)

pub entries_told_apart : TellsApart entry_cmp
entries_told_apart = apart_from entry_total entry_exact

pub entries_equal : IsEquivalence same_entry
entries_equal = eq_by_cmp_equiv entry_total

pub ids_equal : IsEquivalence same_id
ids_equal = eq_by_cmp_equiv id_total
