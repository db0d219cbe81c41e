-- Tables that follow a file that comes or goes are those of the repository with it, or without it.
use Rattle.std.proofs.Common.{◌≡◌, ℕ, Bool, true, false, ◌&&◌, cond, List, [], Option, None, Some, is_some, refl, sym, ap, subst, ◌∙◌}
use Rattle.std.specs.BTreeMap.{IsOrdered, is_at}
use Rattle.std.specs.BTreeMap as tree
use Rattle.std.specs.FinMap as finite
use Rattle.std.specs.Option.{option_map, option_or}
use Rattle.indexmap.specs.IndexMap.{get}
use Rattle.keep_names.specs.FileName.{named}
use Rattle.keep_names.specs.Orders.{id_cmp}
use Rattle.keep_names.specs.declared.blob.BlobId.{BlobId}
use Rattle.keep_names.specs.declared.file_name.FileName.{FileName}
use Rattle.keep_names.specs.declared.file_name.Kind.{Kind}
use Rattle.keep_names.specs.declared.file_name.Kind.TheVariants.{Pack, Index, Snapshot}
use Rattle.keep_names.specs.declared.id.Id.{Id}
use Rattle.keep_repo.specs.Repository.{Repository}
use Rattle.keep_repo.specs.declared.facet.Mark.{Mark}
use Rattle.keep_snap.specs.Snap.{snap_view}
use Rattle.keep_catalog.specs.Files.{index_read, packs_in, snap_in, snap_read, why_of, why_unread}
use Rattle.keep_catalog.specs.Kept.{AreIndexesOf, AreSnapsOf, Indexes, IsHashedIn, IsKept, IsListedIn, IsStoredIn, Snaps, lists_at, packs_at, places_said, said_view, snap_at, with_file, without_file}
use Rattle.keep_catalog.specs.Orders.{packed_blob_cmp, same_id, same_name}
use Rattle.keep_catalog.specs.Places.{at, is_among, listed_in}
use Rattle.keep_catalog.specs.declared.spot.Listing.{Listing}
use Rattle.keep_catalog.specs.declared.spot.PackedBlob.{PackedBlob}
use Rattle.keep_catalog.specs.declared.tables.Tables.{Tables}
use Rattle.keep_catalog.specs.declared.unread.FileError.{FileError}
use Rattle.keep_catalog.proofs.EachTable.{hashed_comes, hashed_goes, listed_comes, listed_goes, said_comes, said_goes, stored_comes, stored_goes, stored_here, unread_comes, unread_goes}
use Rattle.keep_catalog.proofs.Replaced.{file_put, file_taken, listed_by, listings_as_snaps, packs_as_indexes, packs_as_snaps, said_after, said_as_snaps, said_by, same_honest, same_listings, same_said, same_snaps, same_stored, snap_after, snap_by, snaps_as_indexes}

-- ---- tables

abbrev pub noted_at : Tables → FileName → Option FileError
noted_at t q = get same_name t.unread q

-- what is kept of files of other kinds
module _ (r after : Repository) (old new : Tables) (kept : IsKept r old) where
  listings_kept : new.listed ≡ old.listed → ((index : Id) → listed_in after index ≡ listed_in r index) → IsListedIn after new.listed
  listings_kept same files blob l =
      ap (λ t. lists_at t blob l) same ∙ kept.listed blob l
      ∙ ap (λ places. is_among places (at blob l.spot)) (sym (files l.index))

  indexes_kept : new.indexes ≡ old.indexes → ((index : Id) → packs_in after index ≡ packs_in r index) → AreIndexesOf after new.indexes
  indexes_kept same files q = ap (λ t. packs_at t q) same ∙ kept.indexes q ∙ sym (files q)

  names_kept : new.indexes ≡ old.indexes → IsOrdered id_cmp new.indexes
  names_kept same = let P : Indexes → Type 0 = λ t. IsOrdered id_cmp t in subst P (sym same) kept.indexes_ordered

  snaps_kept : new.snaps ≡ old.snaps → ((snapshot : Id) → snap_in after snapshot ≡ snap_in r snapshot) → AreSnapsOf after new.snaps
  snaps_kept same files q = ap (λ t. snap_at t q) same ∙ kept.snaps q ∙ sym (files q)

  order_kept : new.snaps ≡ old.snaps → IsOrdered id_cmp new.snaps
  order_kept same = let P : Snaps → Type 0 = λ t. IsOrdered id_cmp t in subst P (sym same) kept.ordered

  module _ (same : new.stored ≡ old.stored) (packs : (pack : Id) → finite.get after.files (named Pack pack) ≡ finite.get r.files (named Pack pack)) where
    places_kept : IsStoredIn after new.stored
    places_kept p = ap (λ t. is_some (tree.get packed_blob_cmp t p)) same ∙ kept.stored p ∙ sym (same_stored r after packs p)

    hashes_kept : IsHashedIn after new.stored
    hashes_kept p honest got =
        same_honest r after packs p
        ∙ kept.hashed p honest (sym (ap (λ t. tree.get packed_blob_cmp t p) same) ∙ got)

-- one file comes
module _ (r : Repository) (old new : Tables) (bytes : List ℕ) (kept : IsKept r old) where
  -- what is noted of it
  abbrev Noted : FileName → Type 0
  Noted name = (q : FileName) → noted_at new q ≡ option_or (cond (same_name name q) (why_of name.kind bytes) None) (noted_at old q)

  pub pack_comes : (pack : Id) → finite.get r.files (named Pack pack) ≡ None → ((p : PackedBlob) → tree.get packed_blob_cmp new.stored p ≡ cond (stored_here pack bytes p) (Some None) (tree.get packed_blob_cmp old.stored p)) → Noted (named Pack pack) → new.listed ≡ old.listed → new.indexes ≡ old.indexes → new.snaps ≡ old.snaps → IsKept (with_file r (named Pack pack) bytes) new
  pack_comes pack absent put noted listed indexes snaps =
      let name = named Pack pack in
      let after = with_file r name bytes in
      let so = file_put r name bytes in
      record {
        stored = stored_comes r after pack bytes old.stored new.stored kept.stored so absent put;
        hashed = hashed_comes r after pack bytes old.stored new.stored kept.stored so absent put kept.hashed;
        listed = listings_kept r after old new kept listed (same_listings r after pack (Some bytes) so);
        indexes = indexes_kept r after old new kept indexes (same_said r after pack (Some bytes) so);
        indexes_ordered = names_kept r after old new kept indexes;
        snaps = snaps_kept r after old new kept snaps (same_snaps r after pack (Some bytes) so);
        ordered = order_kept r after old new kept snaps;
        unread = unread_comes r after name bytes (noted_at old) (noted_at new) kept.unread so absent noted;
      }

  pub index_comes : (index : Id) → finite.get r.files (named Index index) ≡ None → ((blob : BlobId) (l : Listing) → lists_at new.listed blob l ≡ cond (same_id index l.index && is_among (places_said (index_read (Some bytes))) (at blob l.spot)) true (lists_at old.listed blob l)) → ((q : Id) → packs_at new.indexes q ≡ option_or (cond (same_id index q) (index_read (Some bytes)) None) (packs_at old.indexes q)) → IsOrdered id_cmp new.indexes → Noted (named Index index) → new.stored ≡ old.stored → new.snaps ≡ old.snaps → IsKept (with_file r (named Index index) bytes) new
  index_comes index absent put said ordered noted stored snaps =
      let name = named Index index in
      let after = with_file r name bytes in
      let so = file_put r name bytes in
      record {
        stored = places_kept r after old new kept stored (packs_as_indexes r after index (Some bytes) so);
        hashed = hashes_kept r after old new kept stored (packs_as_indexes r after index (Some bytes) so);
        listed = listed_comes r after index old.listed new.listed kept.listed bytes so absent put;
        indexes = said_comes index (packs_at old.indexes) (packs_in r) (packs_in after) (packs_at new.indexes) kept.indexes (index_read (Some bytes)) (said_by r index None absent) (said_after r after index (Some bytes) so) said;
        indexes_ordered = ordered;
        snaps = snaps_kept r after old new kept snaps (snaps_as_indexes r after index (Some bytes) so);
        ordered = order_kept r after old new kept snaps;
        unread = unread_comes r after name bytes (noted_at old) (noted_at new) kept.unread so absent noted;
      }

  pub snapshot_comes : (snapshot : Id) → finite.get r.files (named Snapshot snapshot) ≡ None → ((q : Id) → snap_at new.snaps q ≡ option_or (cond (same_id snapshot q) (snap_read (Some bytes)) None) (snap_at old.snaps q)) → IsOrdered id_cmp new.snaps → Noted (named Snapshot snapshot) → new.stored ≡ old.stored → new.listed ≡ old.listed → new.indexes ≡ old.indexes → IsKept (with_file r (named Snapshot snapshot) bytes) new
  snapshot_comes snapshot absent put ordered noted stored listed indexes =
      let name = named Snapshot snapshot in
      let after = with_file r name bytes in
      let so = file_put r name bytes in
      record {
        stored = places_kept r after old new kept stored (packs_as_snaps r after snapshot (Some bytes) so);
        hashed = hashes_kept r after old new kept stored (packs_as_snaps r after snapshot (Some bytes) so);
        listed = listings_kept r after old new kept listed (listings_as_snaps r after snapshot (Some bytes) so);
        indexes = indexes_kept r after old new kept indexes (said_as_snaps r after snapshot (Some bytes) so);
        indexes_ordered = names_kept r after old new kept indexes;
        snaps = said_comes snapshot (snap_at old.snaps) (snap_in r) (snap_in after) (snap_at new.snaps) kept.snaps (snap_read (Some bytes)) (snap_by r snapshot None absent) (snap_after r after snapshot (Some bytes) so) put;
        ordered = ordered;
        unread = unread_comes r after name bytes (noted_at old) (noted_at new) kept.unread so absent noted;
      }

-- one file goes
module _ (r : Repository) (old new : Tables) (kept : IsKept r old) where
  -- nothing is noted of it any more
  abbrev Forgotten : FileName → Type 0
  Forgotten name = (q : FileName) → noted_at new q ≡ cond (same_name name q) None (noted_at old q)

  pub pack_goes : (pack : Id) (bytes : List ℕ) → finite.get r.files (named Pack pack) ≡ Some bytes → ((p : PackedBlob) → tree.get packed_blob_cmp new.stored p ≡ cond (stored_here pack bytes p) None (tree.get packed_blob_cmp old.stored p)) → Forgotten (named Pack pack) → new.listed ≡ old.listed → new.indexes ≡ old.indexes → new.snaps ≡ old.snaps → IsKept (without_file r (named Pack pack)) new
  pack_goes pack bytes present took forgotten listed indexes snaps =
      let name = named Pack pack in
      let after = without_file r name in
      let so = file_taken r name in
      record {
        stored = stored_goes r after pack bytes old.stored new.stored kept.stored so present took;
        hashed = hashed_goes r after pack bytes old.stored new.stored kept.stored so present took kept.hashed;
        listed = listings_kept r after old new kept listed (same_listings r after pack None so);
        indexes = indexes_kept r after old new kept indexes (same_said r after pack None so);
        indexes_ordered = names_kept r after old new kept indexes;
        snaps = snaps_kept r after old new kept snaps (same_snaps r after pack None so);
        ordered = order_kept r after old new kept snaps;
        unread = unread_goes r after name [] (noted_at old) (noted_at new) kept.unread so forgotten;
      }

  pub index_goes : (index : Id) → ((blob : BlobId) (l : Listing) → lists_at new.listed blob l ≡ cond (same_id index l.index && is_among (places_said (packs_at old.indexes index)) (at blob l.spot)) false (lists_at old.listed blob l)) → ((q : Id) → packs_at new.indexes q ≡ cond (same_id index q) None (packs_at old.indexes q)) → IsOrdered id_cmp new.indexes → Forgotten (named Index index) → new.stored ≡ old.stored → new.snaps ≡ old.snaps → IsKept (without_file r (named Index index)) new
  index_goes index took said ordered forgotten stored snaps =
      let name = named Index index in
      let after = without_file r name in
      let so = file_taken r name in
      record {
        stored = places_kept r after old new kept stored (packs_as_indexes r after index None so);
        hashed = hashes_kept r after old new kept stored (packs_as_indexes r after index None so);
        listed = listed_goes r after index old.listed new.listed kept.listed so (λ blob l. took blob l
            ∙ ap (λ packs. cond (same_id index l.index && is_among (places_said packs) (at blob l.spot)) false (lists_at old.listed blob l)) (kept.indexes index));
        indexes = said_goes index (packs_at old.indexes) (packs_in r) (packs_in after) (packs_at new.indexes) kept.indexes (said_after r after index None so) said;
        indexes_ordered = ordered;
        snaps = snaps_kept r after old new kept snaps (snaps_as_indexes r after index None so);
        ordered = order_kept r after old new kept snaps;
        unread = unread_goes r after name [] (noted_at old) (noted_at new) kept.unread so forgotten;
      }

  pub snapshot_goes : (snapshot : Id) → ((q : Id) → snap_at new.snaps q ≡ cond (same_id snapshot q) None (snap_at old.snaps q)) → IsOrdered id_cmp new.snaps → Forgotten (named Snapshot snapshot) → new.stored ≡ old.stored → new.listed ≡ old.listed → new.indexes ≡ old.indexes → IsKept (without_file r (named Snapshot snapshot)) new
  snapshot_goes snapshot took ordered forgotten stored listed indexes =
      let name = named Snapshot snapshot in
      let after = without_file r name in
      let so = file_taken r name in
      record {
        stored = places_kept r after old new kept stored (packs_as_snaps r after snapshot None so);
        hashed = hashes_kept r after old new kept stored (packs_as_snaps r after snapshot None so);
        listed = listings_kept r after old new kept listed (listings_as_snaps r after snapshot None so);
        indexes = indexes_kept r after old new kept indexes (said_as_snaps r after snapshot None so);
        indexes_ordered = names_kept r after old new kept indexes;
        snaps = said_goes snapshot (snap_at old.snaps) (snap_in r) (snap_in after) (snap_at new.snaps) kept.snaps (snap_after r after snapshot None so) took;
        ordered = ordered;
        unread = unread_goes r after name [] (noted_at old) (noted_at new) kept.unread so forgotten;
      }

-- what is kept of an index, once one was removed
pub packs_taken : (old new : Indexes) (name : Id) → ((q : Id) → tree.get id_cmp new q ≡ cond (is_at (id_cmp name) q) None (tree.get id_cmp old q)) → (q : Id) → packs_at new q ≡ cond (same_id name q) None (packs_at old q)
packs_taken old new name took q = ap (option_map said_view) (took q) ∙ cases (same_id name q) where
  cases : (b : Bool) → option_map said_view (cond b None (tree.get id_cmp old q)) ≡ cond b None (packs_at old q)
  cases true = refl
  cases false = refl

-- what is kept of a snapshot, once one was removed
pub snap_taken : (old new : Snaps) (name : Id) → ((q : Id) → tree.get id_cmp new q ≡ cond (is_at (id_cmp name) q) None (tree.get id_cmp old q)) → (q : Id) → snap_at new q ≡ cond (same_id name q) None (snap_at old q)
snap_taken old new name took q = ap (option_map snap_view) (took q) ∙ cases (same_id name q) where
  cases : (b : Bool) → option_map snap_view (cond b None (tree.get id_cmp old q)) ≡ cond b None (snap_at old q)
  cases true = refl
  cases false = refl

-- a name of this kind
pub named_so : (name : FileName) (kind : Kind) → name.kind ≡ kind → named kind name.id ≡ name
named_so name kind is = λ i. record { kind = sym is i; id = name.id }

-- ---- marks play no part

marked_why : (r : Repository) (marks : finite.FinMap id_cmp Mark) (q : FileName) → why_unread r q ≡ why_unread (record r { marks = marks }) q
unfolding why_unread
marked_why r marks q = refl

pub re_marked : (r : Repository) (t : Tables) (marks : finite.FinMap id_cmp Mark) → IsKept r t → IsKept (record r { marks = marks }) t
re_marked r t marks kept = record {
  stored = places_kept r (record r { marks = marks }) t t kept refl (λ pack. refl);
  hashed = hashes_kept r (record r { marks = marks }) t t kept refl (λ pack. refl);
  listed = listings_kept r (record r { marks = marks }) t t kept refl (λ index. listed_by (record r { marks = marks }) index _ refl ∙ sym (listed_by r index _ refl));
  indexes = indexes_kept r (record r { marks = marks }) t t kept refl (λ index. said_by (record r { marks = marks }) index _ refl ∙ sym (said_by r index _ refl));
  indexes_ordered = kept.indexes_ordered;
  snaps = snaps_kept r (record r { marks = marks }) t t kept refl (λ snapshot. snap_by (record r { marks = marks }) snapshot _ refl ∙ sym (snap_by r snapshot _ refl));
  ordered = kept.ordered;
  unread = λ q. kept.unread q ∙ marked_why r marks q;
}
