-- The orders of names and blobs in plain words, and that digests are ids.
use Rattle.std.specs.Prelude.{◌≡◌, ◌↔◌, ℕ, ◌<◌, true, List, ◌∷◌, ◌++◌}
use Rattle.std.specs.Ordering.{eq_by_cmp}
use Rattle.std.specs.declared.cmp.Ordering.{Ordering}
use Rattle.std.specs.declared.cmp.Ordering.TheVariants.{Less}
use Rattle.keep_names.specs.Id.{IsDigest}
use Rattle.keep_names.specs.Orders.{blob_cmp, blob_type_cmp, id_cmp, kind_cmp, name_cmp}
use Rattle.keep_names.specs.Sha256.{sha256}
use Rattle.keep_names.specs.declared.blob.BlobId.{BlobId}
use Rattle.keep_names.specs.declared.blob.BlobType.TheVariants.{Content, Tree}
use Rattle.keep_names.specs.declared.file_name.FileName.{FileName}
use Rattle.keep_names.specs.declared.file_name.Kind.TheVariants.{Pack, Index, Snapshot}

-- of two ids the one is less that has the lesser byte where they first differ
abbrev pub IdsAreOrdered : Type 0
IdsAreOrdered =
    (same xs ys : List ℕ) (x y : ℕ) → x < y
    → id_cmp (record { 0 = same ++ x ∷ xs }) (record { 0 = same ++ y ∷ ys }) ≡ Less

-- packs come before indexes, and these before snapshots
abbrev pub KindsAreOrdered : Type 0
KindsAreOrdered = (kind_cmp Pack Index ≡ Less) × (kind_cmp Index Snapshot ≡ Less) × (kind_cmp Pack Snapshot ≡ Less)

-- of two names the one is less that has the lesser kind, and of one kind the one that has the lesser id
abbrev pub NamesAreOrdered : Type 0
NamesAreOrdered =
    (a b : FileName)
    → (kind_cmp a.kind b.kind ≡ Less → name_cmp a b ≡ Less)
    × (a.kind ≡ b.kind → name_cmp a b ≡ id_cmp a.id b.id)

-- pieces of files come before trees
abbrev pub TypesAreOrdered : Type 0
TypesAreOrdered = blob_type_cmp Content Tree ≡ Less

-- of two blobs the one is less that has the lesser id, and of one id the one that has the lesser type
abbrev pub BlobsAreOrdered : Type 0
BlobsAreOrdered =
    (a b : BlobId)
    → (id_cmp a.id b.id ≡ Less → blob_cmp a b ≡ Less)
    × (a.id ≡ b.id → blob_cmp a b ≡ blob_type_cmp a.blob_type b.blob_type)

-- each SHA-256 is an id: it has 32 bytes
abbrev pub DigestsAreIds : Type 0
DigestsAreIds = (bytes : List ℕ) → IsDigest (record { 0 = sha256 bytes })

-- two that the order doesn't tell apart are one
abbrev pub TellsApart : {K : Type 0} → (K → K → Ordering) → Type 0
TellsApart {K} R = (a b : K) → (eq_by_cmp R a b ≡ true) ↔ (a ≡ b)
