-- What is kept of the blobs that were offered so far.
use Rattle.std.specs.Prelude.{◌≡◌, ◌<◌, ◌≤◌, ◌==◌, ◌^◌, ◌++◌, ℕ, false, List, length, map, All}
use Rattle.std.specs.BTreeSet.{contains}
use Rattle.std.specs.Cow.{cow_slice_items}
use Rattle.std.specs.Global.{Global, Vec}
use Rattle.std.specs.List.{count_by, list_any}
use Rattle.std.specs.declared.borrow.CowSlice.{CowSlice}
use Rattle.keep_names.specs.Orders.{blob_cmp}
use Rattle.keep_names.specs.declared.blob.BlobId.{BlobId}
use Rattle.keep_names.specs.declared.blob.BlobType.{BlobType}
use Rattle.keep_names.specs.declared.blob.BlobType.TheVariants.{Content, Tree}
use Rattle.keep_repo.specs.Repository.{Repository}
use Rattle.keep_pack.specs.Pack.{HasOwnId, stored}
use Rattle.keep_catalog.specs.Orders.{blob_eq}
use Rattle.keep_plan.specs.Reuse.{RestOn}
use Rattle.keep_build.specs.Blobs.{BlobData, blob_id_of, is_full, names_once, new_of}
use Rattle.keep_build.specs.declared.storing.Storing.{Storing}

-- the bytes of a blob, lent or owned
abbrev pub Text : Type 0
Text = CowSlice ℕ Global

abbrev pub text_bytes : Text → List ℕ
text_bytes text = cow_slice_items text

-- a blob that is handed over, as its type and its bytes
abbrev pub given : BlobType × Vec ℕ → BlobData
given blob = (blob.0, blob.1.items)

-- what is kept under its name, as its type and its bytes
abbrev pub blob_view : BlobId × Text → BlobData
blob_view = stored text_bytes

-- just these blobs are kept, each under its own name
pub record AreKept (blobs : List BlobData) (kept : List (BlobId × Text)) : Type 0 where
  pub blobs_are : map blob_view kept ≡ blobs
  pub ids_are : All (HasOwnId text_bytes) kept

-- What packs ask of new blobs of a type: each is under its own name and short enough, and one at most is
-- empty, for two empty ones would have one name.
pub record CanBePacked (blobs : List (BlobId × Text)) : Type 0 where
  pub ids : All (HasOwnId text_bytes) blobs
  pub lengths : All (λ blob. length (text_bytes blob.1) < 2 ^ 32) blobs
  pub few : count_by (λ blob. length (text_bytes blob.1) == 0) blobs ≤ 1

-- These blobs were named, and have places, and then those were offered, in this order, and none was too long. What
-- is new of the offered ones is kept, and what the others and the named ones rest on.
pub record Keeps (r : Repository) (named : List BlobId) (offered : List BlobData) (storing : Storing) : Type 0 where
  pub catalog : storing.catalog ≡ r
  pub fits : list_any is_full offered ≡ false
  pub seen : (blob : BlobId) → contains blob_cmp storing.seen blob
      ≡ list_any (blob_eq blob) (map blob_id_of offered)
  pub pieces : AreKept (new_of Content r offered) storing.pieces.items
  pub trees : AreKept (new_of Tree r offered) storing.trees.items
  pub reuses : RestOn r (named ++ names_once offered) storing.reuses
