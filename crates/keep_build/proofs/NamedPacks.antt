-- Packs that got their names.
use Rattle.std.proofs.Common.{◌≡◌, ℕ, List, [], ◌∷◌, ap, drop, get_or, length, map, refl, ◌∙◌, arith}
use denote.Ref.{Bor}
use Rattle.std.specs.List.{AllByRecursion, zip}
use Rattle.std.specs.Prelude.{All}
use Rattle.std.proofs.lemmas.List.{length-map}
use Rattle.std.proofs.lemmas.List.Elements.{All-from_recursion}
use Rattle.keep_names.specs.Sha256.{sha256}
use Rattle.keep_names.specs.declared.file_name.Kind.TheVariants.{Pack}
use Rattle.keep_names.specs.declared.id.Id.{Id}
use Rattle.keep_change.specs.NamedBytes.{NamedBytes, file_of}
use Rattle.keep_index.specs.Index.{PackData}
use Rattle.keep_build.specs.Blobs.{BlobData}
use Rattle.keep_build.specs.NewPacks.{new_pack_of, new_pack_view}
use Rattle.keep_build.specs.Stored.{pack_file, pack_listed}
use Rattle.keep_build.specs.declared.packs.NewPack.{NewPack}

-- the id is that of the bytes
abbrev pub IsOwn : NewPack × Id → Type 0
IsOwn given = given.1.0 ≡ sha256 given.0.bytes.items

abbrev pub AreOwn : List NewPack → List Id → Type 0
AreOwn packs ids = map (λ (id : Id). id.0) ids ≡ map (λ (pack : NewPack). sha256 pack.bytes.items) packs

first : (id : Id) (ids : List Id) (pack : NewPack) (packs : List NewPack) → AreOwn (pack ∷ packs) (id ∷ ids) → id.0 ≡ sha256 pack.bytes.items
first id ids pack packs own = ap (λ xs. get_or xs 0 []) own

later : (id : Id) (ids : List Id) (pack : NewPack) (packs : List NewPack) → AreOwn (pack ∷ packs) (id ∷ ids) → AreOwn packs ids
later id ids pack packs own = ap (drop 1) own

own_each : (packs : List NewPack) (ids : List Id) → AreOwn packs ids → AllByRecursion IsOwn (zip packs ids)
own_each [] ids own = tt
own_each (pack ∷ packs) [] own = tt
own_each (pack ∷ packs) (id ∷ ids) own = (first id ids pack packs own, own_each packs ids (later id ids pack packs own))

pub all_own : (packs : List NewPack) (ids : List Id) → AreOwn packs ids → All IsOwn (zip packs ids)
all_own packs ids own = All-from_recursion IsOwn (zip packs ids) (own_each packs ids own)

abbrev pub file_given : NewPack × Id → NamedBytes
file_given given = file_of Pack given.0.bytes.items

abbrev pub listed_given : NewPack × Id → PackData
listed_given given = record { id = given.1; blobs = given.0.blobs.items }

abbrev pub AreOf : List NewPack → List (List BlobData) → Type 0
AreOf packs of = map new_pack_view packs ≡ map new_pack_of of

head_of : (pack : NewPack) (packs : List NewPack) (one : List BlobData) (of : List (List BlobData)) → AreOf (pack ∷ packs) (one ∷ of) → new_pack_view pack ≡ new_pack_of one
head_of pack packs one of are = ap (λ xs. get_or xs 0 ([], [])) are

tail_of : (pack : NewPack) (packs : List NewPack) (one : List BlobData) (of : List (List BlobData)) → AreOf (pack ∷ packs) (one ∷ of) → AreOf packs of
tail_of pack packs one of are = ap (drop 1) are

pub files_named : (packs : List NewPack) (ids : List Id) (of : List (List BlobData)) → AreOwn packs ids → AreOf packs of → map file_given (zip packs ids) ≡ map pack_file of
unfolding pack_file new_pack_of
files_named [] ids [] own are = refl
files_named [] ids (one ∷ of) own are =
    let count : 0 ≡ length (map new_pack_of (one ∷ of)) = ap length are in
    absurd (omega (arith, count, length-map (one ∷ of) new_pack_of))
files_named (pack ∷ packs) ids [] own are =
    let count : length (map new_pack_view (pack ∷ packs)) ≡ 0 = ap length are in
    absurd (omega (arith, count, length-map (pack ∷ packs) new_pack_view))
files_named (pack ∷ packs) [] (one ∷ of) own are =
    let count : 0 ≡ length (map (λ (pack : NewPack). sha256 pack.bytes.items) (pack ∷ packs)) = ap length own in
    absurd (omega (arith, count, length-map (pack ∷ packs) (λ (pack : NewPack). sha256 pack.bytes.items)))
files_named (pack ∷ packs) (id ∷ ids) (one ∷ of) own are =
    (λ i. file_of Pack (head_of pack packs one of are i).0 ∷ files_named packs ids of (later id ids pack packs own) (tail_of pack packs one of are) i)

pub listed_named : (packs : List NewPack) (ids : List Id) (of : List (List BlobData)) → AreOwn packs ids → AreOf packs of → map listed_given (zip packs ids) ≡ map pack_listed of
unfolding pack_file pack_listed new_pack_of
listed_named [] ids [] own are = refl
listed_named [] ids (one ∷ of) own are =
    let count : 0 ≡ length (map new_pack_of (one ∷ of)) = ap length are in
    absurd (omega (arith, count, length-map (one ∷ of) new_pack_of))
listed_named (pack ∷ packs) ids [] own are =
    let count : length (map new_pack_view (pack ∷ packs)) ≡ 0 = ap length are in
    absurd (omega (arith, count, length-map (pack ∷ packs) new_pack_view))
listed_named (pack ∷ packs) [] (one ∷ of) own are =
    let count : 0 ≡ length (map (λ (pack : NewPack). sha256 pack.bytes.items) (pack ∷ packs)) = ap length own in
    absurd (omega (arith, count, length-map (pack ∷ packs) (λ (pack : NewPack). sha256 pack.bytes.items)))
listed_named (pack ∷ packs) (id ∷ ids) (one ∷ of) own are =
    let bytes : pack.bytes.items ≡ (new_pack_of one).0 = ap (λ made. made.0) (head_of pack packs one of are) in
    let named : id.0 ≡ sha256 (new_pack_of one).0 = first id ids pack packs own ∙ ap sha256 bytes in
    (λ i. record { id = record { 0 = named i }; blobs = (head_of pack packs one of are i).1 }
    ∷ listed_named packs ids of (later id ids pack packs own) (tail_of pack packs one of are) i)

-- the hashes of lent bytes are those of the packs whose bytes they are
pub hashes_of : (texts : List (Bor (List ℕ))) (packs : List NewPack) → map (λ (text : Bor (List ℕ)). text.now) texts ≡ map (λ (pack : NewPack). pack.bytes.items) packs
    → map (λ (text : Bor (List ℕ)). sha256 text.now) texts ≡ map (λ (pack : NewPack). sha256 pack.bytes.items) packs
hashes_of [] [] are = refl
hashes_of [] (pack ∷ packs) are =
    let count : 0 ≡ length (map (λ (pack : NewPack). pack.bytes.items) (pack ∷ packs)) = ap length are in
    absurd (omega (arith, count, length-map (pack ∷ packs) (λ (pack : NewPack). pack.bytes.items)))
hashes_of (text ∷ texts) [] are =
    let count : length (map (λ (text : Bor (List ℕ)). text.now) (text ∷ texts)) ≡ 0 = ap length are in
    absurd (omega (arith, count, length-map (text ∷ texts) (λ (text : Bor (List ℕ)). text.now)))
hashes_of (text ∷ texts) (pack ∷ packs) are =
    (λ i. sha256 (ap (λ xs. get_or xs 0 []) are i) ∷ hashes_of texts packs (ap (drop 1) are) i)
