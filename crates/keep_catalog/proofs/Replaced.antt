-- What the files of a repository say once one of them has other bytes, came or went.
use Rattle.std.proofs.Common.{◌≡◌, ℕ, Bool, true, false, ◌||◌, cond, List, [], ◌∷◌, map, Option, None, Some, refl, sym, ap, ◌∙◌}
use Rattle.std.proofs.lemmas.Map.Views.{tells_apart}
use Rattle.std.specs.Cmp.{tied_itself}
use Rattle.std.specs.FinMap as finite
use Rattle.std.specs.Option.{option_and_then, option_map_or}
use Rattle.std.specs.Ordering.{is_eq}
use Rattle.keep_names.proofs.Orders.{id_exact, name_exact, name_total}
use Rattle.keep_names.specs.FileName.{named}
use Rattle.keep_names.specs.declared.blob.Blob.{Blob}
use Rattle.keep_names.specs.declared.blob.BlobId.{BlobId}
use Rattle.keep_names.specs.declared.file_name.FileName.{FileName}
use Rattle.keep_names.specs.declared.file_name.Kind.TheVariants.{Pack, Index, Snapshot}
use Rattle.keep_names.specs.declared.id.Id.{Id}
use Rattle.keep_repo.specs.Repository.{Repository}
use Rattle.keep_catalog.specs.Files.{file_in, index_read, packs_in, snap_in, snap_read, why_of, why_unread}
use Rattle.keep_catalog.specs.Kept.{lists_in, with_file, without_file}
use Rattle.keep_catalog.specs.Orders.{name_eq, packed_blob_eq, same_id}
use Rattle.keep_catalog.specs.Places.{places_listed, places_stored, at, bytes_at, has_id, is_among, is_honest, is_stored, listed_in, packed_of, slice_of, stored_in}
use Rattle.keep_catalog.specs.declared.spot.Listing.{Listing}
use Rattle.keep_catalog.specs.declared.spot.PackedBlob.{PackedBlob}
use Rattle.keep_catalog.proofs.SpotOrders.{packed_blob_eq_same}

-- the second repository has just these bytes under the name, or none, and all else as the first
abbrev pub IsReplaced : Repository → Repository → FileName → Option (List ℕ) → Type 0
IsReplaced r after name o = (q : FileName) → finite.get after.files q ≡ cond (name_eq q name) o (finite.get r.files q)

pub file_put : (r : Repository) (name : FileName) (bytes : List ℕ) → IsReplaced r (with_file r name bytes) name (Some bytes)
file_put r name bytes q = finite.get-insert name_total r.files name bytes q

pub file_taken : (r : Repository) (name : FileName) → IsReplaced r (without_file r name) name None
file_taken r name q = finite.get-remove name_total r.files name q

pub name_eq_refl : (name : FileName) → name_eq name name ≡ true
name_eq_refl name = ap is_eq (tied_itself name_total name)

-- ---- what it says by itself

-- a place that some list of entries of a pack has is of that pack
pub of_pack : (pack : Id) (entries : List Blob) (p : PackedBlob) → is_among (map (packed_of pack) entries) p ≡ true → p.spot.pack ≡ pack
of_pack pack [] p h = cc h
of_pack pack (entry ∷ entries) p h = cases (of_pack pack entries p) (packed_blob_eq p (packed_of pack entry)) refl h where
  cases : (is_among (map (packed_of pack) entries) p ≡ true → p.spot.pack ≡ pack) → (b : Bool) → packed_blob_eq p (packed_of pack entry) ≡ b → (b || is_among (map (packed_of pack) entries) p) ≡ true → p.spot.pack ≡ pack
  cases others true same _ = ap (λ (q : PackedBlob). q.spot.pack) (packed_blob_eq_same p (packed_of pack entry) same)
  cases others false other rest = others rest

pub stored_by : (r : Repository) (pack : Id) (o : Option (List ℕ)) → finite.get r.files (named Pack pack) ≡ o → stored_in r pack ≡ places_stored pack o
unfolding stored_in file_in
stored_by r pack o is = ap (places_stored pack) is

pub listed_by : (r : Repository) (index : Id) (o : Option (List ℕ)) → finite.get r.files (named Index index) ≡ o → listed_in r index ≡ places_listed o
unfolding listed_in file_in
listed_by r index o is = ap places_listed is

pub said_by : (r : Repository) (index : Id) (o : Option (List ℕ)) → finite.get r.files (named Index index) ≡ o → packs_in r index ≡ index_read o
unfolding packs_in file_in
said_by r index o is = ap index_read is

pub snap_by : (r : Repository) (name : Id) (o : Option (List ℕ)) → finite.get r.files (named Snapshot name) ≡ o → snap_in r name ≡ snap_read o
unfolding snap_in file_in
snap_by r name o is = ap snap_read is

-- the header of a place's own pack
pub stored_own : (r : Repository) (pack : Id) (o : Option (List ℕ)) → finite.get r.files (named Pack pack) ≡ o → (p : PackedBlob) → same_id p.spot.pack pack ≡ true → is_stored r p ≡ is_among (places_stored pack o) p
stored_own r pack o is p same =
    ap (λ x. is_among (stored_in r x) p) (tells_apart id_exact p.spot.pack pack same)
    ∙ ap (λ places. is_among places p) (stored_by r pack o is)

pub lists_own : (r : Repository) (index : Id) (o : Option (List ℕ)) → finite.get r.files (named Index index) ≡ o → (blob : BlobId) (l : Listing) → same_id l.index index ≡ true → lists_in r blob l ≡ is_among (places_listed o) (at blob l.spot)
lists_own r index o is blob l same =
    ap (λ x. is_among (listed_in r x) (at blob l.spot)) (tells_apart id_exact l.index index same)
    ∙ ap (λ places. is_among places (at blob l.spot)) (listed_by r index o is)

-- what the bytes of the spot's pack have at the spot
abbrev bytes_from : PackedBlob → Option (List ℕ) → Bool
bytes_from p o = option_map_or (has_id p.blob.id) (option_and_then (slice_of p.spot.offset p.spot.length) o) false

honest_by : (r : Repository) (p : PackedBlob) (o : Option (List ℕ)) → finite.get r.files (named Pack p.spot.pack) ≡ o → is_honest r p.blob p.spot ≡ bytes_from p o
unfolding bytes_at file_in
honest_by r p o is = ap (bytes_from p) is

-- ---- one file is replaced

module _ (r after : Repository) (name : FileName) (o : Option (List ℕ)) (replaced : IsReplaced r after name o) where
  pub there : finite.get after.files name ≡ o
  there = replaced name ∙ ap (λ b. cond b o (finite.get r.files name)) (name_eq_refl name)

  pub elsewhere : (q : FileName) → name_eq q name ≡ false → finite.get after.files q ≡ finite.get r.files q
  elsewhere q other = replaced q ∙ ap (λ b. cond b o (finite.get r.files q)) other

  -- why a file can't be read
  pub unread_after : (q : FileName) → why_unread after q ≡ cond (name_eq q name) (option_and_then (why_of name.kind) o) (why_unread r q)
  unfolding why_unread
  unread_after q = cases (name_eq q name) refl where
    cases : (b : Bool) → name_eq q name ≡ b → option_and_then (why_of q.kind) (finite.get after.files q) ≡ cond b (option_and_then (why_of name.kind) o) (option_and_then (why_of q.kind) (finite.get r.files q))
    cases true same =
        let is : q ≡ name = tells_apart name_exact q name same in
        ap (λ (n : FileName). option_and_then (why_of n.kind) (finite.get after.files n)) is
        ∙ ap (option_and_then (why_of name.kind)) there
    cases false other = ap (option_and_then (why_of q.kind)) (elsewhere q other)

module _ (r after : Repository) (pack : Id) (o : Option (List ℕ)) (replaced : IsReplaced r after (named Pack pack) o) where
  -- what headers have
  pub stored_after : (p : PackedBlob) → is_stored after p ≡ cond (same_id p.spot.pack pack) (is_among (places_stored pack o) p) (is_stored r p)
  stored_after p = cases (same_id p.spot.pack pack) refl where
    cases : (b : Bool) → same_id p.spot.pack pack ≡ b → is_stored after p ≡ cond b (is_among (places_stored pack o) p) (is_stored r p)
    cases true same = stored_own after pack o (there r after (named Pack pack) o replaced) p same
    cases false other =
        ap (λ places. is_among places p)
        (stored_by after p.spot.pack _ (elsewhere r after (named Pack pack) o replaced (named Pack p.spot.pack) other)
        ∙ sym (stored_by r p.spot.pack _ refl))

  -- bytes of other packs are as they were
  pub honest_after : (p : PackedBlob) → same_id p.spot.pack pack ≡ false → is_honest after p.blob p.spot ≡ is_honest r p.blob p.spot
  honest_after p other =
      honest_by after p _ (elsewhere r after (named Pack pack) o replaced (named Pack p.spot.pack) other)
      ∙ sym (honest_by r p _ refl)

  pub same_listings : (index : Id) → listed_in after index ≡ listed_in r index
  same_listings index =
      listed_by after index _ (elsewhere r after (named Pack pack) o replaced (named Index index) refl)
      ∙ sym (listed_by r index _ refl)

  pub same_said : (index : Id) → packs_in after index ≡ packs_in r index
  same_said index =
      said_by after index _ (elsewhere r after (named Pack pack) o replaced (named Index index) refl)
      ∙ sym (said_by r index _ refl)

  pub same_snaps : (snapshot : Id) → snap_in after snapshot ≡ snap_in r snapshot
  same_snaps snapshot =
      snap_by after snapshot _ (elsewhere r after (named Pack pack) o replaced (named Snapshot snapshot) refl)
      ∙ sym (snap_by r snapshot _ refl)

-- files of another kind than packs
module _ (r after : Repository) (packs : (pack : Id) → finite.get after.files (named Pack pack) ≡ finite.get r.files (named Pack pack)) where
  pub same_stored : (p : PackedBlob) → is_stored after p ≡ is_stored r p
  same_stored p = ap (λ places. is_among places p) (stored_by after p.spot.pack _ (packs p.spot.pack) ∙ sym (stored_by r p.spot.pack _ refl))

  pub same_honest : (p : PackedBlob) → is_honest after p.blob p.spot ≡ is_honest r p.blob p.spot
  same_honest p = honest_by after p _ (packs p.spot.pack) ∙ sym (honest_by r p _ refl)

module _ (r after : Repository) (index : Id) (o : Option (List ℕ)) (replaced : IsReplaced r after (named Index index) o) where
  pub packs_as_indexes : (pack : Id) → finite.get after.files (named Pack pack) ≡ finite.get r.files (named Pack pack)
  packs_as_indexes pack = elsewhere r after (named Index index) o replaced (named Pack pack) refl

  -- what indexes list
  pub lists_after : (blob : BlobId) (l : Listing) → lists_in after blob l ≡ cond (same_id l.index index) (is_among (places_listed o) (at blob l.spot)) (lists_in r blob l)
  lists_after blob l = cases (same_id l.index index) refl where
    cases : (b : Bool) → same_id l.index index ≡ b → lists_in after blob l ≡ cond b (is_among (places_listed o) (at blob l.spot)) (lists_in r blob l)
    cases true same = lists_own after index o (there r after (named Index index) o replaced) blob l same
    cases false other =
        ap (λ places. is_among places (at blob l.spot))
        (listed_by after l.index _ (elsewhere r after (named Index index) o replaced (named Index l.index) other)
        ∙ sym (listed_by r l.index _ refl))

  -- what they say
  pub said_after : (q : Id) → packs_in after q ≡ cond (same_id q index) (index_read o) (packs_in r q)
  said_after q = cases (same_id q index) refl where
    cases : (b : Bool) → same_id q index ≡ b → packs_in after q ≡ cond b (index_read o) (packs_in r q)
    cases true same =
        ap (packs_in after) (tells_apart id_exact q index same)
        ∙ said_by after index o (there r after (named Index index) o replaced)
    cases false other =
        said_by after q _ (elsewhere r after (named Index index) o replaced (named Index q) other)
        ∙ sym (said_by r q _ refl)

  pub snaps_as_indexes : (snapshot : Id) → snap_in after snapshot ≡ snap_in r snapshot
  snaps_as_indexes snapshot =
      snap_by after snapshot _ (elsewhere r after (named Index index) o replaced (named Snapshot snapshot) refl)
      ∙ sym (snap_by r snapshot _ refl)

module _ (r after : Repository) (name : Id) (o : Option (List ℕ)) (replaced : IsReplaced r after (named Snapshot name) o) where
  pub packs_as_snaps : (pack : Id) → finite.get after.files (named Pack pack) ≡ finite.get r.files (named Pack pack)
  packs_as_snaps pack = elsewhere r after (named Snapshot name) o replaced (named Pack pack) refl

  pub listings_as_snaps : (index : Id) → listed_in after index ≡ listed_in r index
  listings_as_snaps index =
      listed_by after index _ (elsewhere r after (named Snapshot name) o replaced (named Index index) refl)
      ∙ sym (listed_by r index _ refl)

  pub said_as_snaps : (index : Id) → packs_in after index ≡ packs_in r index
  said_as_snaps index =
      said_by after index _ (elsewhere r after (named Snapshot name) o replaced (named Index index) refl)
      ∙ sym (said_by r index _ refl)

  -- what snapshots say
  pub snap_after : (q : Id) → snap_in after q ≡ cond (same_id q name) (snap_read o) (snap_in r q)
  snap_after q = cases (same_id q name) refl where
    cases : (b : Bool) → same_id q name ≡ b → snap_in after q ≡ cond b (snap_read o) (snap_in r q)
    cases true same =
        ap (snap_in after) (tells_apart id_exact q name same)
        ∙ snap_by after name o (there r after (named Snapshot name) o replaced)
    cases false other =
        snap_by after q _ (elsewhere r after (named Snapshot name) o replaced (named Snapshot q) other)
        ∙ sym (snap_by r q _ refl)
