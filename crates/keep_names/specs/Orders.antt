-- The orders of ids and of names, and their codes: what a finite map with such keys is made of.
use Rattle.std.specs.Prelude.{◌≡◌, ℕ, zero, suc, List, refl}
use Rattle.std.specs.Coded.{Coded, code_by, coded_ℕ, coded_list, coded×}
use Rattle.std.specs.declared.cmp.Ordering.{Ordering}
use Rattle.keep_names.specs.declared.blob.BlobId.{BlobId}
use Rattle.keep_names.specs.declared.blob.BlobType.{BlobType}
use Rattle.keep_names.specs.declared.blob.BlobType.TheVariants.{Content, Tree}
use Rattle.keep_names.specs.declared.file_name.FileName.{FileName}
use Rattle.keep_names.specs.declared.file_name.Kind.{Kind}
use Rattle.keep_names.specs.declared.file_name.Kind.TheVariants.{Pack, Index, Snapshot}
use Rattle.keep_names.specs.declared.id.Id.{Id}
use Rattle.keep_names.specs.contracts.blob.BlobIdOrd.TheImpl as the_blob_order
use Rattle.keep_names.specs.contracts.blob.BlobTypeOrd.TheImpl as the_blob_type_order
use Rattle.keep_names.specs.contracts.file_name.FileNameOrd.TheImpl as the_name_order
use Rattle.keep_names.specs.contracts.file_name.KindOrd.TheImpl as the_kind_order
use Rattle.keep_names.specs.contracts.id.IdOrd.TheImpl as the_id_order

-- ids by their bytes, the first first
abbrev pub id_cmp : Id → Id → Ordering
id_cmp = (the_id_order.ghosts).cmp

-- packs, indexes, snapshots
abbrev pub kind_cmp : Kind → Kind → Ordering
kind_cmp = (the_kind_order.ghosts).cmp

-- by kind, and then by id
abbrev pub name_cmp : FileName → FileName → Ordering
name_cmp = (the_name_order.ghosts).cmp

-- pieces of files, trees
abbrev pub blob_type_cmp : BlobType → BlobType → Ordering
blob_type_cmp = (the_blob_type_order.ghosts).cmp

-- by id, and then by type
abbrev pub blob_cmp : BlobId → BlobId → Ordering
blob_cmp = (the_blob_order.ghosts).cmp

-- an id is its bytes
abbrev pub coded_id : Coded Id
coded_id = code_by (List ℕ) (coded_list coded_ℕ) (λ id. id.0) (λ bytes. record { 0 = bytes }) (λ _. refl)

-- a kind's place in their order
abbrev pub kind_number : Kind → ℕ
kind_number Pack = 0
kind_number Index = 1
kind_number Snapshot = 2

-- the kind at a place
abbrev pub kind_at : ℕ → Kind
kind_at zero = Pack
kind_at (suc zero) = Index
kind_at (suc (suc _)) = Snapshot

pub kind_at-kind_number : (kind : Kind) → kind_at (kind_number kind) ≡ kind
kind_at-kind_number Pack = refl
kind_at-kind_number Index = refl
kind_at-kind_number Snapshot = refl

abbrev pub coded_kind : Coded Kind
coded_kind = code_by ℕ coded_ℕ kind_number kind_at kind_at-kind_number

-- a name is its kind and its id
abbrev pub coded_name : Coded FileName
coded_name =
    code_by (Kind × Id) (coded× coded_kind coded_id) (λ name. (name.kind, name.id))
    (λ p. record { kind = p.0; id = p.1 }) (λ _. refl)

-- a blob type's place in their order
abbrev pub blob_type_number : BlobType → ℕ
blob_type_number Content = 0
blob_type_number Tree = 1

-- the blob type at a place
abbrev pub blob_type_at : ℕ → BlobType
blob_type_at zero = Content
blob_type_at (suc _) = Tree

pub blob_type_at-number : (t : BlobType) → blob_type_at (blob_type_number t) ≡ t
blob_type_at-number Content = refl
blob_type_at-number Tree = refl

abbrev pub coded_blob_type : Coded BlobType
coded_blob_type = code_by ℕ coded_ℕ blob_type_number blob_type_at blob_type_at-number

-- a blob's name is its id and its type
abbrev pub coded_blob : Coded BlobId
coded_blob =
    code_by (Id × BlobType) (coded× coded_id coded_blob_type) (λ blob. (blob.id, blob.blob_type))
    (λ p. record { id = p.0; blob_type = p.1 }) (λ _. refl)
