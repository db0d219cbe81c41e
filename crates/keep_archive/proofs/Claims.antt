-- Blobs that are named, and blobs that are offered, one after the other.
use Rattle.std.proofs.Common.{◌≡◌, ◌<◌, ◌+◌, ℕ, Bool, true, false, cond, List, [], ◌∷◌, ◌++◌, length, map, take, drop, get_or, Option, None, Some, is_none, is_some, refl, sym, ap, subst, ◌∙◌, append_assoc, append-nil, arith}
use Rattle.std.proofs.lemmas.List.{drop_all, drop_more, map_more, take_all, take_more}
use Rattle.std.specs.List.{find}
use Rattle.keep_names.specs.declared.blob.BlobId.{BlobId}
use Rattle.keep_repo.specs.Repository.{Repository}
use Rattle.keep_catalog.specs.Places.{chosen_listing}
use Rattle.keep_build.specs.Blobs.{BlobData}
use Rattle.keep_build.specs.Storing.{Keeps}
use Rattle.keep_build.specs.declared.storing.Storing.{Storing}
use Rattle.keep_archive.specs.Archive.{held_view}
use Rattle.keep_archive.specs.Plans.{has_no_place}
use Rattle.keep_archive.specs.declared.held.HeldBlob.{HeldBlob}

-- so many of the blobs were named, and each has a place
pub record Claimed (all : List BlobId) (i : ℕ) (old now : Storing) : Type 0 where
  pub kept : (r : Repository) → Keeps r [] [] old → Keeps r (take i all) [] now
  pub placed : (r : Repository) → Keeps r [] [] old → find (has_no_place r) all ≡ find (has_no_place r) (drop i all)

pub none_claimed : (all : List BlobId) (old : Storing) → Claimed all 0 old old
none_claimed all old = record { kept = λ r keeps. keeps; placed = λ r keeps. refl }

-- whether a blob has a place
abbrev TellsPlace : BlobId → Bool → Storing → Type 0
TellsPlace b there now = (r : Repository) (named : List BlobId) → Keeps r named [] now → there ≡ is_some (chosen_listing r b)

without_place : {X : Type 0} (o : Option X) (there : Bool) → there ≡ is_some o → (b : Bool) → there ≡ b → is_none o ≡ cond b false true
without_place None there is true same = let never : true ≡ false = sym same ∙ is in cc never
without_place None there is false same = refl
without_place (Some x) there is true same = refl
without_place (Some x) there is false same = let never : false ≡ true = sym same ∙ is in cc never

module _ (all : List BlobId) (i : ℕ) (b : BlobId) (old now new : Storing) (there : Bool) (lt : i < length all) (at : b ≡ get_or all i b) (claimed : Claimed all i old now) (tells : TellsPlace b there now) where
  rest_is : drop i all ≡ b ∷ drop (i + 1) all
  rest_is = drop_more all i b lt ∙ ap (λ (x : BlobId). x ∷ drop (i + 1) all) (sym at)

  pub one_claimed : there ≡ true → ((r : Repository) (named : List BlobId) → Keeps r named [] now → Keeps r (named ++ b ∷ []) [] new) → Claimed all (i + 1) old new
  one_claimed placed_so more = record {
    kept = λ r keeps.
        subst (λ (named : List BlobId). Keeps r named [] new)
        (ap (λ (x : BlobId). take i all ++ x ∷ []) at ∙ sym (take_more all i b lt))
        (more r (take i all) (claimed.kept r keeps));
    placed = λ r keeps.
        claimed.placed r keeps ∙ ap (find (has_no_place r)) rest_is
        ∙ ap (λ (t : Bool). cond t (Some b) (find (has_no_place r) (drop (i + 1) all)))
        (without_place (chosen_listing r b) there (tells r (take i all) (claimed.kept r keeps)) true placed_so);
  }

  pub missing_here : there ≡ false → (r : Repository) → Keeps r [] [] old → Some b ≡ find (has_no_place r) all
  missing_here absent r keeps = sym (
      claimed.placed r keeps ∙ ap (find (has_no_place r)) rest_is
      ∙ ap (λ (t : Bool). cond t (Some b) (find (has_no_place r) (drop (i + 1) all)))
      (without_place (chosen_listing r b) there (tells r (take i all) (claimed.kept r keeps)) false absent))

module _ (all : List BlobId) (i : ℕ) (old now : Storing) (whole : length all ≡ i) (claimed : Claimed all i old now) where
  pub all_kept : (r : Repository) → Keeps r [] [] old → Keeps r all [] now
  all_kept r keeps = subst (λ (named : List BlobId). Keeps r named [] now) (take_all i all (omega (arith, whole))) (claimed.kept r keeps)

  pub none_missing : (r : Repository) → Keeps r [] [] old → None ≡ find (has_no_place r) all
  none_missing r keeps = sym (claimed.placed r keeps ∙ ap (find (has_no_place r)) (drop_all i all (omega (arith, whole))))

-- ---- blobs that are held

-- so many of the blobs were offered
abbrev pub HasOffered : List HeldBlob → Storing → Storing → Type 0
HasOffered done old now =
    (r : Repository) (named : List BlobId) (offered : List BlobData) → Keeps r named offered old → Keeps r named (offered ++ map held_view done) now

pub none_offered : (old : Storing) → HasOffered [] old old
none_offered old r named offered keeps = subst (λ (bs : List BlobData). Keeps r named bs old) (sym (append-nil offered)) keeps

pub one_offered : (all : List HeldBlob) (i : ℕ) (h : HeldBlob) (b : BlobData) (old now new : Storing) → i < length all → h ≡ get_or all i h → b ≡ held_view h
    → ((r : Repository) (named : List BlobId) (offered : List BlobData) → Keeps r named offered now → Keeps r named (offered ++ b ∷ []) new)
    → HasOffered (take i all) old now → HasOffered (take (i + 1) all) old new
one_offered all i h b old now new lt at is more done r named offered keeps =
    subst (λ (bs : List BlobData). Keeps r named bs new)
    (append_assoc offered (map held_view (take i all)) (b ∷ [])
    ∙ ap (λ (x : BlobData). offered ++ (map held_view (take i all) ++ x ∷ [])) (is ∙ ap held_view at)
    ∙ ap (λ (bs : List BlobData). offered ++ bs) (sym (map_more held_view all i h lt)))
    (more r named (offered ++ map held_view (take i all)) (done r named offered keeps))

pub all_offered : (all : List HeldBlob) (i : ℕ) (old now : Storing) → length all ≡ i → HasOffered (take i all) old now → HasOffered all old now
all_offered all i old now whole done = subst (λ (hs : List HeldBlob). HasOffered hs old now) (take_all i all (omega (arith, whole))) done
