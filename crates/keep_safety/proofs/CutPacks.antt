-- What the packs are that blobs are cut into.
use Rattle.std.proofs.Common.{◌≡◌, ◌≢◌, ℕ, suc, zero, ◌+◌, ◌-◌, ◌<◌, ◌≤◌, Bool, true, false, cond, nat_le, List, [], ◌∷◌, length, take, refl, sym, ap, subst, ◌∙◌, arith}
use Rattle.std.specs.List.{AllByRecursion, flat_map}
use Rattle.std.proofs.lemmas.Bool.Decides.{nat_tests}
use Rattle.std.proofs.lemmas.List.Elements.{All-from_recursion}
use Rattle.std.proofs.lemmas.List.Sums.{sum_by-cons}
use Rattle.keep_plan.proofs.Ordered.{each_so}
use Rattle.keep_build.specs.Blobs.{BlobData}
use Rattle.keep_safety.specs.Cut.{AreCut}
use Rattle.keep_build.specs.Packs.{bytes_in, full_pack, packs_from, packs_of, put_before}

abbrev Packed : Type 0
Packed = List BlobData

one_more : (b : BlobData) (bs : Packed) → bytes_in (b ∷ bs) ≡ length b.1 + bytes_in bs
one_more b bs = sum_by-cons (λ (x : BlobData). length x.1) b bs

le_is : (a b : ℕ) → nat_le a b ≡ true → a ≤ b
le_is a b h = grind (arith, nat_tests)

gt_is : (a b : ℕ) → nat_le a b ≡ false → b < a
gt_is a b h = grind (arith, nat_tests)

abbrev all_of : List Packed → Packed
all_of packs = flat_map (λ pack. pack) packs

-- ---- together they are the blobs

joined_before : (b : BlobData) (packs : List Packed) → all_of (put_before b packs) ≡ b ∷ all_of packs
joined_before b [] = refl
joined_before b (p ∷ ps) = refl

joined : (lacks : ℕ) (blobs : Packed) → all_of (packs_from lacks blobs) ≡ blobs
joined lacks [] = refl
joined lacks (b ∷ bs) = cases (joined full_pack bs) (joined (lacks - length b.1) bs) (nat_le lacks (length b.1)) where
  cases : all_of (packs_from full_pack bs) ≡ bs → all_of (packs_from (lacks - length b.1) bs) ≡ bs → (t : Bool)
      → all_of (cond t ((b ∷ []) ∷ packs_from full_pack bs) (put_before b (packs_from (lacks - length b.1) bs))) ≡ b ∷ bs
  cases ih more true = ap (λ (xs : Packed). b ∷ xs) ih
  cases ih more false = joined_before b (packs_from (lacks - length b.1) bs) ∙ ap (λ (xs : Packed). b ∷ xs) more

-- ---- what is known of the first, which is full with so many bytes, and of the others

abbrev IsFront : ℕ → Packed → Type 0
IsFront limit pack = (count : ℕ) → count < length pack → bytes_in (take count pack) < limit

record IsCutPack (limit : ℕ) (pack : Packed) : Type 0 where
  pub some : 0 < length pack
  pub fronts : IsFront limit pack

abbrev AreFine : ℕ → List Packed → Type 0
AreFine limit [] = Unit {0}
AreFine limit (p ∷ ps) = IsCutPack limit p × (0 < length ps → limit ≤ bytes_in p) × AreFine full_pack ps

one_pack : (limit : ℕ) (b : BlobData) → 0 < limit → IsCutPack limit (b ∷ [])
one_pack limit b positive = record { some = omega arith; fronts = fronts } where
  fronts : IsFront limit (b ∷ [])
  fronts zero within = positive
  fronts (suc k) within = absurd (omega arith)

more_pack : (limit : ℕ) (b : BlobData) (p : Packed) → length b.1 < limit → IsCutPack (limit - length b.1) p → IsCutPack limit (b ∷ p)
more_pack limit b p low cut = record { some = omega arith; fronts = fronts } where
  fronts : IsFront limit (b ∷ p)
  fronts zero within = omega arith
  fronts (suc k) within =
      let front : bytes_in (take k p) < limit - length b.1 = cut.fronts k (omega arith) in
      let all : bytes_in (b ∷ take k p) ≡ length b.1 + bytes_in (take k p) = one_more b (take k p) in
      omega arith

fine_before : (limit : ℕ) (b : BlobData) (packs : List Packed) → length b.1 < limit → AreFine (limit - length b.1) packs → AreFine limit (put_before b packs)
fine_before limit b [] low fine = (one_pack limit b (omega arith), (λ some. absurd (omega arith)), tt)
fine_before limit b (p ∷ ps) low fine =
    let all : bytes_in (b ∷ p) ≡ length b.1 + bytes_in p = one_more b p in
    (more_pack limit b p low fine.0, (λ some. let enough : limit - length b.1 ≤ bytes_in p = fine.1 some in omega arith), fine.2)

fine : (lacks : ℕ) (blobs : Packed) → 0 < lacks → AreFine lacks (packs_from lacks blobs)
fine lacks [] positive = tt
fine lacks (b ∷ bs) positive = cases (fine full_pack bs (omega arith)) (λ more. fine (lacks - length b.1) bs more) (nat_le lacks (length b.1)) refl where
  cases : AreFine full_pack (packs_from full_pack bs) → (0 < lacks - length b.1 → AreFine (lacks - length b.1) (packs_from (lacks - length b.1) bs))
      → (t : Bool) → nat_le lacks (length b.1) ≡ t → AreFine lacks (cond t ((b ∷ []) ∷ packs_from full_pack bs) (put_before b (packs_from (lacks - length b.1) bs)))
  cases ih more true is =
      let enough : lacks ≤ length b.1 = le_is lacks (length b.1) is in
      let all : bytes_in (b ∷ []) ≡ length b.1 + 0 = one_more b [] in
      (one_pack lacks b positive, (λ some. omega arith), ih)
  cases ih more false is =
      let low : length b.1 < lacks = gt_is lacks (length b.1) is in
      fine_before lacks b (packs_from (lacks - length b.1) bs) low (more (omega arith))

-- ---- of all packs

each_cut : (packs : List Packed) → AreFine full_pack packs → AllByRecursion (IsCutPack full_pack) packs
each_cut [] fine = tt
each_cut (p ∷ ps) fine = (fine.0, each_cut ps fine.2)

but_last : (packs : List Packed) → AreFine full_pack packs → AllByRecursion (λ pack. full_pack ≤ bytes_in pack) (take (length packs - 1) packs)
but_last [] fine = tt
but_last (p ∷ []) fine = tt
but_last (p ∷ q ∷ qs) fine =
    let count : length (p ∷ q ∷ qs) - 1 ≡ suc (length (q ∷ qs) - 1) = omega arith in
    subst Enough (sym count) (fine.1 (omega arith), but_last (q ∷ qs) fine.2) where
      Enough : ℕ → Type 0
      Enough n = AllByRecursion (λ (pack : Packed). full_pack ≤ bytes_in pack) (take n (p ∷ q ∷ qs))

some_is : (pack : Packed) → 0 < length pack → pack ≢ []
some_is [] some none = absurd (omega arith)
some_is (b ∷ bs) some none =
    let count : length (b ∷ bs) ≡ 0 = ap length none in
    absurd (omega arith)

pub are_cut : (blobs : Packed) → AreCut blobs (packs_of blobs)
unfolding packs_of
are_cut blobs =
    let packs : List Packed = packs_from full_pack blobs in
    let fine_all : AreFine full_pack packs = fine full_pack blobs (omega arith) in
    record {
      joined = joined full_pack blobs;
      some = All-from_recursion (λ (pack : Packed). pack ≢ []) packs (each_so (IsCutPack full_pack) (λ (pack : Packed). pack ≢ []) (λ pack cut. some_is pack cut.some) packs (each_cut packs fine_all));
      fronts = All-from_recursion (IsFront full_pack) packs (each_so (IsCutPack full_pack) (IsFront full_pack) (λ pack cut. cut.fronts) packs (each_cut packs fine_all));
      full = All-from_recursion (λ (pack : Packed). full_pack ≤ bytes_in pack) (take (length packs - 1) packs) (but_last packs fine_all);
    }
