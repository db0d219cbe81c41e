-- The orders of ids and names are total, and only equal ones tie.
use Rattle.std.proofs.Common.{ℕ, List, ap, refl}
use Rattle.std.specs.Cmp.{IsTotalOrder}
use Rattle.std.specs.FinMap.{IsAntisymmetric, nat_cmp-IsAntisymmetric, slice_cmp-IsAntisymmetric}
use Rattle.std.proofs.lemmas.Map.Lookups.{exact_pairs}
use Rattle.keep_names.specs.Orders.{id_cmp, kind_cmp, name_cmp, blob_cmp, blob_type_cmp}
use Rattle.keep_names.specs.declared.blob.BlobType.{BlobType}
use Rattle.keep_names.specs.declared.blob.BlobType.TheVariants.{Content, Tree}
use Rattle.keep_names.specs.declared.file_name.Kind.{Kind}
use Rattle.keep_names.specs.declared.file_name.Kind.TheVariants.{Pack, Index, Snapshot}
use Rattle.keep_names.specs.declared.id.Id.{Id}
use Rattle.keep_names.specs.contracts.blob.BlobIdOrd.TheImpl.Laws as the_blob_laws
use Rattle.keep_names.specs.contracts.file_name.FileNameOrd.TheImpl.Laws as the_name_laws
use Rattle.keep_names.specs.contracts.file_name.KindOrd.TheImpl.Laws as the_kind_laws
use Rattle.keep_names.specs.contracts.id.IdOrd.TheImpl.Laws as the_id_laws

pub id_total : IsTotalOrder id_cmp
id_total = the_id_laws.total-law

pub kind_total : IsTotalOrder kind_cmp
kind_total = the_kind_laws.total-law

pub name_total : IsTotalOrder name_cmp
name_total = the_name_laws.total-law

pub blob_total : IsTotalOrder blob_cmp
blob_total = the_blob_laws.total-law

pub id_exact : IsAntisymmetric id_cmp
id_exact a b tied =
    ap (λ (bytes : List ℕ). record { 0 = bytes }) (slice_cmp-IsAntisymmetric nat_cmp-IsAntisymmetric a.0 b.0 tied)

pub kind_exact : IsAntisymmetric kind_cmp
kind_exact Pack Pack tied = refl
kind_exact Pack Index tied = cc tied
kind_exact Pack Snapshot tied = cc tied
kind_exact Index Pack tied = cc tied
kind_exact Index Index tied = refl
kind_exact Index Snapshot tied = cc tied
kind_exact Snapshot Pack tied = cc tied
kind_exact Snapshot Index tied = cc tied
kind_exact Snapshot Snapshot tied = refl

pub name_exact : IsAntisymmetric name_cmp
name_exact a b tied =
    ap (λ (p : Kind × Id). record { kind = p.0; id = p.1 })
    (exact_pairs kind_cmp id_cmp kind_exact id_exact (a.kind, a.id) (b.kind, b.id) tied)

blob_type_exact : IsAntisymmetric blob_type_cmp
blob_type_exact Content Content tied = refl
blob_type_exact Content Tree tied = cc tied
blob_type_exact Tree Content tied = cc tied
blob_type_exact Tree Tree tied = refl

pub blob_exact : IsAntisymmetric blob_cmp
blob_exact a b tied =
    ap (λ (p : Id × BlobType). record { id = p.0; blob_type = p.1 })
    (exact_pairs id_cmp blob_type_cmp id_exact blob_type_exact (a.id, a.blob_type) (b.id, b.blob_type) tied)
