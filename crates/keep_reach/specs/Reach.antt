-- What is reached from a blob, and the first refusal, depth first.
use Rattle.std.specs.Prelude.{◌≡◌, ℕ, zero, suc, ◌⊎◌, Bool, true, false, List, [], ◌∷◌, Option, None, Some, Result, Ok, Err, IsOkAnd, if◌then◌else◌}
use Rattle.std.specs.Option.{option_or}
use Rattle.keep_names.specs.declared.blob.BlobId.{BlobId}
use Rattle.keep_names.specs.declared.blob.BlobType.{BlobType}
use Rattle.keep_names.specs.declared.blob.BlobType.TheVariants.{Content, Tree}
use Rattle.keep_catalog.specs.declared.reach_error.ReachError.{ReachError}
use Rattle.keep_catalog.specs.declared.reach_error.ReachError.TheVariants.{TooDeep}

-- the blobs that each blob names, or why it can't be had
abbrev pub Naming : Type 0
Naming = BlobId → Result (List BlobId) ReachError

abbrev pub has_type_tree : BlobType → Bool
has_type_tree Content = false
has_type_tree Tree = true

-- the first refusal among blobs
abbrev pub first_of : (BlobId → Option ReachError) → List BlobId → Option ReachError
first_of refusal [] = None
first_of refusal (blob ∷ blobs) = option_or (refusal blob) (first_of refusal blobs)

-- the blob's own refusal, else the first of those that it names
abbrev pub own_or : (BlobId → Option ReachError) → Result (List BlobId) ReachError → Option ReachError
own_or refusal (Ok blobs) = first_of refusal blobs
own_or refusal (Err own) = Some own

-- the first refusal depth first, where trees may stand at this many levels from the blob down
abbrev pub refusal_at : Naming → ℕ → BlobId → Option ReachError
refusal_at named zero blob = if has_type_tree blob.blob_type then Some TooDeep else own_or (λ _. None) (named blob)
refusal_at named (suc levels) blob = own_or (refusal_at named levels) (named blob)

-- the blob is one of these
abbrev pub HasBlob : List BlobId → BlobId → Type 0
HasBlob [] b = ⊥
HasBlob (x ∷ xs) b = (x ≡ b) ⊎ HasBlob xs b

abbrev pub Names : Naming → BlobId → BlobId → Type 0
Names named a b = IsOkAnd (named a) (λ blobs. HasBlob blobs b)

-- the second is reached from the first, where trees may stand at this many levels from the first down
abbrev pub Reaches : Naming → ℕ → BlobId → BlobId → Type 0
Reaches named zero a b = (has_type_tree a.blob_type ≡ false) × (a ≡ b)
Reaches named (suc levels) a b = (a ≡ b) ⊎ ((c : BlobId) × Names named a c × Reaches named levels c b)

-- how deep trees may stand: the root is at level 1
unfoldable pub most_levels : ℕ
most_levels = 256
