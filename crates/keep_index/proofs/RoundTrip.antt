-- An index reads back from its text.
use Rattle.std.proofs.Common.{◌≡◌, ℕ, ◌^◌, ◌<◌, ◌≤◌, List, [], ◌∷◌, map, Some, Result, Ok, Err, IfOk, Vec}
use Rattle.std.proofs.Common.{Global, IsUtf8, false, refl, ap, ◌∙◌, arith}
use Rattle.std.proofs.lemmas.Bool.{lt-ltb}
use Rattle.std.specs.Prelude.{ok_or}
use Rattle.std.specs.List.{AllByRecursion}
use Rattle.std.specs.declared.alloc.AllocError.{AllocError}
use Rattle.json.proofs.Printed.Utf8.{IsUtf8-are_ascii}
use Rattle.serde_json.specs.Data.{Data, string, depth, items_depth}
use Rattle.serde_json.specs.Read.{max_depth}
use Rattle.serde_json.specs.View.{items_of}
use Rattle.serde_json.specs.Written.{compact_text, has_float}
use Rattle.keep_names.specs.declared.blob.BlobType.{BlobType}
use Rattle.keep_names.specs.declared.blob.BlobType.TheVariants.{Content, Tree}
use Rattle.keep_docs.specs.Doc.{shaped}
use Rattle.keep_docs.specs.Fields.{if_below}
use Rattle.keep_docs.specs.Lists.{each}
use Rattle.keep_docs.specs.Readable.{IsReadable}
use Rattle.keep_docs.proofs.Built.{IsReadable-id_data, IsReadable-list_data}
use Rattle.keep_docs.proofs.Built.{as_id-id_data, each-map, values_of-items_of}
use Rattle.keep_docs.proofs.ReadBack.{doc_of-compact_text, has_float-IsReadable}
use Rattle.keep_index.specs.Index.{Fits, FitsBlob, FitsPack, PackData}
use Rattle.keep_index.specs.Reading.{as_blob_type, blob_in, index_in, index_of, pack_in}
use Rattle.keep_index.specs.Writing.{blob_data, index_data, index_text, pack_data, type_word}
use Rattle.keep_names.specs.declared.blob.Blob.{Blob}
use Rattle.keep_index.specs.declared.index_error.IndexError.TheVariants.{Doc, BadIndex}

-- ---- lists

module _ {A : Type 0} (P Q : A → Type 0) (implied : (x : A) → P x → Q x) where
  all_implied : (xs : List A) → AllByRecursion P xs → AllByRecursion Q xs
  all_implied [] h = tt
  all_implied (x ∷ xs) h = (implied x h.0, all_implied xs h.1)

module _ {A B : Type 0} (P : A → Type 0) (Q : B → Type 0) (f : A → B)
    (implied : (x : A) → P x → Q (f x)) where
  all_mapped : (xs : List A) → AllByRecursion P xs → AllByRecursion Q (map f xs)
  all_mapped [] h = tt
  all_mapped (x ∷ xs) h = (implied x h.0, all_mapped xs h.1)

-- a list nests no deeper than its values
module _ {A : Type 0} (write : A → Data) (n : ℕ) (shallow : (x : A) → depth (write x) ≤ n) where
  items_depth-map : (xs : List A) → items_depth (items_of (map write xs)) ≤ n
  items_depth-map [] = omega arith
  items_depth-map (x ∷ xs) =
      let one = shallow x in
      let rest = items_depth-map xs in
      omega arith

-- ---- what is written is readable

word_utf8 : (t : BlobType) → IsUtf8 (type_word t)
word_utf8 Content = IsUtf8-are_ascii _ refl
word_utf8 Tree = IsUtf8-are_ascii _ refl

readable_blob : (entry : Blob) → FitsBlob entry → IsReadable (blob_data entry)
readable_blob entry h = (
  IsUtf8-are_ascii _ refl,
  IsReadable-id_data entry.blob.id,
  (refl, (refl, (refl, tt))),
  (
    IsUtf8-are_ascii _ refl,
    omega arith,
    (refl, (refl, tt)),
    (
      IsUtf8-are_ascii _ refl,
      h.1,
      (refl, tt),
      (IsUtf8-are_ascii _ refl, word_utf8 entry.blob.blob_type, tt, tt),
    ),
  ),
)

readable_pack : (pack : PackData) → FitsPack pack → IsReadable (pack_data pack)
readable_pack pack h = (
  IsUtf8-are_ascii _ refl,
  IsReadable-list_data (map blob_data pack.blobs)
      (all_mapped FitsBlob IsReadable blob_data readable_blob pack.blobs h.1),
  (refl, tt),
  (IsUtf8-are_ascii _ refl, IsReadable-id_data pack.id, tt, tt),
)

readable_index : (packs : List PackData) → Fits packs → IsReadable (index_data packs)
readable_index packs h = (
  IsUtf8-are_ascii _ refl,
  IsReadable-list_data (map pack_data packs) (all_mapped FitsPack IsReadable pack_data readable_pack packs h),
  tt,
  tt,
)

-- ---- and nests to five levels

depth-pack_data : (pack : PackData) → depth (pack_data pack) ≤ 3
depth-pack_data pack =
    let blobs = items_depth-map blob_data 1 (λ entry. omega arith) pack.blobs in
    omega arith

depth-index_data : (packs : List PackData) → depth (index_data packs) ≤ max_depth
depth-index_data packs =
    let within = items_depth-map pack_data 3 depth-pack_data packs in
    omega arith

-- ---- it is read as what was written

type_back : (t : BlobType) → as_blob_type (string (type_word t)) ≡ Some t
type_back Content = refl
type_back Tree = refl

below_back : (limit n : ℕ) → n < limit → if_below limit n ≡ Some n
below_back limit n h = rw (lt-ltb n limit h)

blob_back : (entry : Blob) → FitsBlob entry → blob_in (blob_data entry) ≡ Some entry
blob_back entry h =
    rw (
      as_id-id_data entry.blob.id h.0,
      type_back entry.blob.blob_type,
      below_back (2 ^ 32) entry.length h.2,
    )

pack_back : (pack : PackData) → FitsPack pack → pack_in (pack_data pack) ≡ Some pack
pack_back pack h =
    let is_back = λ (entry : Blob). blob_in (blob_data entry) ≡ Some entry in
    let each_back = all_implied FitsBlob is_back blob_back pack.blobs h.1 in
    rw (
      as_id-id_data pack.id h.0,
      values_of-items_of (map blob_data pack.blobs),
      each-map blob_in blob_data pack.blobs each_back,
    )

index_back : (packs : List PackData) → Fits packs → index_in (index_data packs) ≡ Some packs
index_back packs h =
    let is_back = λ (pack : PackData). pack_in (pack_data pack) ≡ Some pack in
    let each_back = all_implied FitsPack is_back pack_back packs h in
    ap (λ values. each pack_in values) (values_of-items_of (map pack_data packs))
    ∙ each-map pack_in pack_data packs each_back

pub index_of-index_text : (packs : List PackData) → Fits packs → index_of (index_text packs) ≡ Ok packs
index_of-index_text packs h =
    let document = doc_of-compact_text (index_data packs) (readable_index packs h) (depth-index_data packs) in
    ap (λ r. shaped Doc (λ d. ok_or (index_in d) BadIndex) r) document
    ∙ ap (λ o. ok_or o BadIndex) (index_back packs h)

-- ---- the writer's answer

pub text_is : (r : Result (Vec ℕ Global) AllocError) (d : Data) (packs : List PackData) → d ≡ index_data packs
    → Fits packs → IfOk r (λ bytes. has_float d ≡ false → bytes.items ≡ compact_text d)
    → IfOk r (λ bytes. bytes.items ≡ index_text packs)
text_is (Ok bytes) d packs is fits text =
    let whole = has_float-IsReadable (index_data packs) (readable_index packs fits) in
    text (ap has_float is ∙ whole) ∙ ap compact_text is
text_is (Err e) d packs is fits text = tt

pub reads_back : (r : Result (Vec ℕ Global) AllocError) (packs : List PackData) → Fits packs
    → IfOk r (λ bytes. bytes.items ≡ index_text packs) → IfOk r (λ bytes. index_of bytes.items ≡ Ok packs)
reads_back (Ok bytes) packs fits text = ap index_of text ∙ index_of-index_text packs fits
reads_back (Err e) packs fits text = tt
