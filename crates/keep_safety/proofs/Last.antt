-- The last change of an archive is safe.
use Rattle.std.proofs.Common.{◌≡◌, ℕ, Bool, true, false, ◌||◌, cond, List, [], ◌∷◌, ◌++◌, map, All, IsSome, IsUtf8, Option, None, Some, is_none, is_some, option_map, Ok, lit<, refl, sym, ap, subst, ◌∙◌}
use Rattle.std.proofs.lemmas.Bool.{or_left, or_right}
use Rattle.std.proofs.lemmas.Grind.{flat_map-append}
use Rattle.std.proofs.lemmas.List.{map-append}
use Rattle.std.proofs.lemmas.List.Elements.{All-from_recursion, All-push, filter_map-append, recursion_from_All}
use Rattle.std.proofs.lemmas.List.Folds.{list_any-append}
use Rattle.std.proofs.lemmas.Map.Views.{tells_apart}
use Rattle.std.specs.Cmp.{IsTotalOrder}
use Rattle.std.specs.List.{AllByRecursion, find, flat_map, list_any}
use Rattle.std.specs.Ordering.{eq_by_cmp}
use Rattle.serde_json.specs.Written.{compact_text}
use Rattle.keep_names.proofs.Orders.{blob_exact, id_total, name_total}
use Rattle.keep_names.specs.FileName.{named}
use Rattle.keep_names.specs.Laws.{DigestsAreIds}
use Rattle.keep_names.specs.Orders.{id_cmp, name_cmp}
use Rattle.keep_names.specs.declared.blob.BlobId.{BlobId}
use Rattle.keep_names.specs.declared.file_name.FileName.{FileName}
use Rattle.keep_names.specs.declared.file_name.Kind.TheVariants.{Index, Pack, Snapshot}
use Rattle.keep_names.specs.declared.id.Id.{Id}
use Rattle.keep_repo.specs.Repository.{Repository}
use Rattle.keep_change.specs.Filling.{has_name, has_pack}
use Rattle.keep_change.specs.Lists.{file_names, marked_packs}
use Rattle.keep_change.specs.NamedBytes.{NamedBytes}
use Rattle.keep_change.specs.declared.change.Change.{Change}
use Rattle.keep_snap.specs.Shape.{IsSnap}
use Rattle.keep_snap.specs.Snap as snap_reading
use Rattle.keep_snap.specs.Snap.{SnapData}
use Rattle.keep_snap.specs.Time.{time_in}
use Rattle.keep_snap.specs.Written.{snap_data}
use Rattle.keep_snap.specs.declared.time.Time.{Time}
use Rattle.keep_catalog.proofs.Ordered.{in_order-same}
use Rattle.keep_catalog.specs.Files.{snap_of}
use Rattle.keep_catalog.specs.Ordered.{in_order}
use Rattle.keep_catalog.specs.Orders.{blob_eq}
use Rattle.keep_catalog.specs.Places.{chosen_listing}
use Rattle.keep_catalog.specs.declared.spot.Spot.{Spot}
use Rattle.keep_plan.specs.Reuse.{reused_files, reused_packs, uses_of}
use Rattle.keep_plan.specs.Files.{files_used}
use Rattle.keep_plan.specs.Storing.{RecordsUse, names_there, packs_among, stored_built, unmarked_of}
use Rattle.keep_plan.specs.declared.plan_error.PlanError.TheVariants.{BadTime, Full, Reach}
use Rattle.keep_plan.specs.declared.unreached.Unreached.TheVariants.{MissingBlob}
use Rattle.keep_plan.proofs.Recorded.{use_recorded}
use Rattle.keep_catalog.specs.Places.{reuse_of}
use Rattle.keep_sound.specs.Careful.{GivesPlace, IsSafe}
use Rattle.keep_sound.specs.Met.{AddsPart, IsIn, IsPartOf}
use Rattle.keep_sound.specs.Plans.{BackingUpIsSafe, Records, RecordsReuse, ReusedIsGiven, Texts}
use Rattle.keep_build.proofs.Built.{adds_so, built_so}
use Rattle.keep_backup.specs.Backup.{FactsData, bad_time, change_of, tagged_file, tagged_snapshot}
use Rattle.keep_build.specs.Blobs.{BlobData, blob_id_of, id_of, is_full, names_once, tree_blob}
use Rattle.keep_build.specs.Stored.{built, index_file, pack_file, packs_built, stored_of, stored_with}
use Rattle.keep_safety.proofs.Entries.{index_name, pack_name}
use Rattle.keep_safety.specs.Met.{IsMet}
use Rattle.keep_safety.specs.SafeBackup.{AreTexts, StoringGives, Takes}
use Rattle.keep_archive.specs.Archive.{ArchiveData}
use Rattle.keep_archive.specs.Plans.{has_no_place, last_blobs, last_change, missing_first}
use Rattle.keep_archive.proofs.Made.{IsLast, is_last, last_well_formed}
use Rattle.keep_safety.specs.Safe.{AreWhole, LastIsSafe, MeetsLast, root_of}

-- the laws on which it rests
pub record Known : Type 0 where
  pub digests : DigestsAreIds
  pub snapshots : (s : SnapData) → IsSnap s → snap_reading.snap_of (compact_text (snap_data s)) ≡ Ok s
  pub storing : StoringGives
  pub reused : ReusedIsGiven
  pub backing_up : BackingUpIsSafe

-- ---- what is stored beside blobs that are named

-- what is among keys in order is among more keys in order
module _ {K : Type 0} {R : K → K → _} (total : IsTotalOrder R) where
  still_among : (q : K) (xs ys more : List K) → (list_any (eq_by_cmp R q) xs ≡ true → list_any (eq_by_cmp R q) more ≡ true)
      → list_any (eq_by_cmp R q) (in_order R (xs ++ ys)) ≡ true → list_any (eq_by_cmp R q) (in_order R (more ++ ys)) ≡ true
  still_among q xs ys more grows h =
      in_order-same total q (more ++ ys) ∙ list_any-append (eq_by_cmp R q) more ys
      ∙ either (list_any (eq_by_cmp R q) xs) (list_any (eq_by_cmp R q) more) (list_any (eq_by_cmp R q) ys) grows
      (sym (list_any-append (eq_by_cmp R q) xs ys) ∙ sym (in_order-same total q (xs ++ ys)) ∙ h) where
        either : (a b c : Bool) → (a ≡ true → b ≡ true) → (a || c) ≡ true → (b || c) ≡ true
        either true b c g is = or_left b c (g refl)
        either false b c g is = or_right b c is

module _ (r : Repository) (named_blobs once : List BlobId) where
  uses_more : uses_of r (named_blobs ++ once) ≡ uses_of r named_blobs ++ uses_of r once
  uses_more = filter_map-append (reuse_of r) named_blobs once

  files_more : (name : FileName) → list_any (eq_by_cmp name_cmp name) (reused_files r once) ≡ true → list_any (eq_by_cmp name_cmp name) (reused_files r (named_blobs ++ once)) ≡ true
  unfolding reused_files
  files_more name h =
      ap (λ uses. list_any (eq_by_cmp name_cmp name) (flat_map files_used uses)) uses_more
      ∙ ap (list_any (eq_by_cmp name_cmp name)) (flat_map-append files_used (uses_of r named_blobs) (uses_of r once))
      ∙ list_any-append (eq_by_cmp name_cmp name) (flat_map files_used (uses_of r named_blobs)) (flat_map files_used (uses_of r once))
      ∙ or_right (list_any (eq_by_cmp name_cmp name) (flat_map files_used (uses_of r named_blobs))) (list_any (eq_by_cmp name_cmp name) (flat_map files_used (uses_of r once))) h

  packs_more : (pack : Id) → list_any (eq_by_cmp id_cmp pack) (reused_packs r once) ≡ true → list_any (eq_by_cmp id_cmp pack) (reused_packs r (named_blobs ++ once)) ≡ true
  unfolding reused_packs
  packs_more pack h =
      ap (λ uses. list_any (eq_by_cmp id_cmp pack) (map (λ (p : Id × Id). p.0) uses)) uses_more
      ∙ ap (list_any (eq_by_cmp id_cmp pack)) (map-append (λ (p : Id × Id). p.0) (uses_of r named_blobs) (uses_of r once))
      ∙ list_any-append (eq_by_cmp id_cmp pack) (map (λ (p : Id × Id). p.0) (uses_of r named_blobs)) (map (λ (p : Id × Id). p.0) (uses_of r once))
      ∙ or_right (list_any (eq_by_cmp id_cmp pack) (map (λ (p : Id × Id). p.0) (uses_of r named_blobs))) (list_any (eq_by_cmp id_cmp pack) (map (λ (p : Id × Id). p.0) (uses_of r once))) h

-- the change has what is stored
module _ (r : Repository) (named_blobs : List BlobId) (blobs : List BlobData) (snapshot : NamedBytes) where
  abbrev made : Change
  made = change_of (stored_with r named_blobs blobs) snapshot

  takes_more : Takes made (stored_of r blobs)
  unfolding stored_of stored_with stored_built
  takes_more = record {
    adds = λ name has.
        ap (λ (names : List FileName). has_name names name) (map-append (λ (f : NamedBytes). f.name) (stored_with r named_blobs blobs).adds (snapshot ∷ []))
        ∙ list_any-append _ (file_names (stored_with r named_blobs blobs).adds) (snapshot.name ∷ [])
        ∙ or_left (has_name (file_names (stored_with r named_blobs blobs).adds) name) (has_name (snapshot.name ∷ []) name) has;
    present = λ name has.
        still_among name_total name (reused_files r (names_once blobs)) (names_there r (built r blobs)) (reused_files r (named_blobs ++ names_once blobs))
        (files_more r named_blobs (names_once blobs) name) has;
    clears = λ pack has. has;
    unmarked = λ pack has.
        still_among id_total pack (reused_packs r (names_once blobs)) (unmarked_of r (packs_among (built r blobs))) (reused_packs r (named_blobs ++ names_once blobs))
        (packs_more r named_blobs (names_once blobs) pack) has;
  }

  -- a blob that is named, and has a place, is given
  module _ (known : Known) (all : Repository) (part : IsPartOf r all) (name : BlobId) (among : list_any (blob_eq name) named_blobs ≡ true) (place : Spot × Id) (chosen : chosen_listing r name ≡ Some place) where
    use_is : RecordsUse (stored_with r named_blobs blobs) place
    unfolding stored_with
    use_is =
        use_recorded r (named_blobs ++ names_once blobs) (built r blobs) name place
        (list_any-append (blob_eq name) named_blobs (names_once blobs) ∙ or_left (list_any (blob_eq name) named_blobs) (list_any (blob_eq name) (names_once blobs)) among) chosen

    place_recorded : Records made place.0.pack place.1
    place_recorded = record {
      has_pack = or_right (has_name (file_names made.adds) (named Pack place.0.pack)) (has_name made.present (named Pack place.0.pack)) use_is.pack;
      has_index = or_right (has_name (file_names made.adds) (named Index place.1)) (has_name made.present (named Index place.1)) use_is.index;
      free = or_right (has_pack (marked_packs made.clears) place.0.pack) (has_pack made.unmarked place.0.pack) use_is.mark;
    }

    recorded : RecordsReuse r made name
    recorded pair is =
        let some : Some (place.0.pack, place.1) ≡ Some pair = sym (ap (option_map (λ (e : Spot × Id). (e.0.pack, e.1))) chosen) ∙ is in
        let same : (place.0.pack, place.1) ≡ pair = cc some in
        subst (λ (p : Id × Id). Records made p.0 p.1) same place_recorded

    pub named_given : GivesPlace all made name
    named_given = known.reused r all made name part (ap is_some chosen) recorded

-- each of the named blobs has a place, where none is missed
module _ (r : Repository) where
  none_missed : (blobs : List BlobId) (name : BlobId) → missing_first r blobs ≡ None → list_any (blob_eq name) blobs ≡ true → has_no_place r name ≡ false
  none_missed [] name none among = cc among
  none_missed (b ∷ bs) name none among = cases (none_missed bs name) (has_no_place r b) refl none (blob_eq name b) refl among where
    cases : (missing_first r bs ≡ None → list_any (blob_eq name) bs ≡ true → has_no_place r name ≡ false) → (n : Bool) → has_no_place r b ≡ n → option_map (λ (blob : BlobId). Reach (MissingBlob blob.id)) (cond n (Some b) (find (has_no_place r) bs)) ≡ None
        → (t : Bool) → blob_eq name b ≡ t → (t || list_any (blob_eq name) bs) ≡ true → has_no_place r name ≡ false
    cases later true new is t same h = cc is
    cases later false there is true same h = ap (has_no_place r) (tells_apart blob_exact name b same) ∙ there
    cases later false there is false other h = later is h

  some_place : (name : BlobId) → has_no_place r name ≡ false → (place : Spot × Id) × (chosen_listing r name ≡ Some place)
  some_place name there = cases (chosen_listing r name) refl there where
    cases : (o : Option (Spot × Id)) → chosen_listing r name ≡ o → is_none o ≡ false → (place : Spot × Id) × (chosen_listing r name ≡ Some place)
    cases None is never = cc never
    cases (Some place) is _ = (place, is)

-- ---- the snapshot

snapshot_stands : DigestsAreIds → (facts : FactsData) (tags : List (List ℕ)) → AreTexts facts → All IsUtf8 tags → (tree : BlobData) → IsSome (time_in facts.time) → IsSnap (tagged_snapshot facts tags (id_of tree))
snapshot_stands digests facts tags texts tags_are tree timed = record {
  timed = timed;
  time = texts.time;
  tree = digests tree.1;
  paths = texts.paths;
  hostname = texts.host;
  username = texts.user;
  tags = tags_are;
  original = tt;
  dir = tt;
  carried = tt;
  nests = lit< tt;
  apart = refl;
}

snapshot_bytes : (facts : FactsData) (tags : List (List ℕ)) (tree : Id) → (tagged_file facts tags tree).bytes ≡ compact_text (snap_data (tagged_snapshot facts tags tree))
unfolding tagged_file
snapshot_bytes facts tags tree = refl

reads_snapshot : (bytes : List ℕ) (s : SnapData) → snap_reading.snap_of bytes ≡ Ok s → snap_of bytes ≡ Ok s
unfolding snap_of
reads_snapshot bytes s is = is

-- the file, if it is a snapshot, says this root
abbrev HasRoot : Id → NamedBytes → Type 0
HasRoot root f = f.name.kind ≡ Snapshot → (snap : SnapData) → snap_of f.bytes ≡ Ok snap → snap.tree ≡ root

pack_apart : (root : Id) (pack : List BlobData) → HasRoot root (pack_file pack)
pack_apart root pack kind snap read =
    let is : Pack ≡ Snapshot = sym (ap (λ (n : FileName). n.kind) (pack_name pack)) ∙ kind in
    cc is

index_apart : (root : Id) (packs : List (List BlobData)) → HasRoot root (index_file packs)
index_apart root packs kind snap read =
    let is : Index ≡ Snapshot = sym (ap (λ (n : FileName). n.kind) (index_name packs)) ∙ kind in
    cc is

some_time : (facts : FactsData) → bad_time facts ≡ None → IsSome (time_in facts.time)
some_time facts good = cases (time_in facts.time) refl good where
  cases : (o : Option Time) → time_in facts.time ≡ o → cond (is_none o) (Some BadTime) None ≡ None → is_some (time_in facts.time) ≡ true
  cases None is never = cc never
  cases (Some time) is _ = ap is_some is

-- ---- the change

adds_alike : (r : Repository) (P : NamedBytes → Type 0) (named_blobs : List BlobId) (blobs : List BlobData) → AllByRecursion P (built r blobs) → AllByRecursion P (stored_with r named_blobs blobs).adds
unfolding stored_with stored_of stored_built
adds_alike r P named_blobs blobs all = adds_so r P blobs all

module _ (known : Known) (r all : Repository) (facts : FactsData) (tags : List (List ℕ)) (a : ArchiveData) (texts : Texts) (c : Change)
    (is : last_change r facts tags a ≡ Ok c) (said : AreTexts facts) (tags_are : All IsUtf8 tags) (short : list_any is_full a.blobs.held ≡ false)
    (met : IsMet all r) (meets : MeetsLast all r facts tags a texts) (whole : AreWhole a texts) where
  last : IsLast r facts tags a c
  last = is_last r facts tags a c is

  abbrev snapshot : NamedBytes
  snapshot = tagged_file facts tags (root_of a)

  abbrev change : Change
  change = change_of (stored_with r a.blobs.named (last_blobs a)) snapshot

  -- no blob that is left is too long
  all_short : list_any is_full (last_blobs a) ≡ false
  all_short =
      list_any-append is_full a.blobs.held (tree_blob a.place.nodes ∷ [])
      ∙ (λ i. short i || (tree_short (is_full (tree_blob a.place.nodes)) last.short i || false)) where
        tree_short : (b : Bool) → cond b (Some Full) None ≡ None → b ≡ false
        tree_short true never = cc never
        tree_short false _ = refl

  snapshot_root : HasRoot (root_of a) snapshot
  snapshot_root kind snap read =
      let says : SnapData = tagged_snapshot facts tags (root_of a) in
      let back : snap_of snapshot.bytes ≡ Ok says =
      ap snap_of (snapshot_bytes facts tags (root_of a))
      ∙ reads_snapshot (compact_text (snap_data says)) says (known.snapshots says (snapshot_stands known.digests facts tags said tags_are (tree_blob a.place.nodes) (some_time facts last.timed))) in
      let both : Ok snap ≡ Ok says = sym read ∙ back in
      let same : snap ≡ says = cc both in
      ap (λ (s : SnapData). s.tree) same

  adds_met : AddsPart all change
  adds_met =
      All-push (IsIn all) (stored_with r a.blobs.named (last_blobs a)).adds snapshot
      (All-from_recursion (IsIn all) (stored_with r a.blobs.named (last_blobs a)).adds
      (adds_alike r (IsIn all) a.blobs.named (last_blobs a) (recursion_from_All (IsIn all) (built r (last_blobs a)) meets.built)))
      meets.snapshot

  adds_rooted : All (HasRoot (root_of a)) change.adds
  adds_rooted =
      All-push (HasRoot (root_of a)) (stored_with r a.blobs.named (last_blobs a)).adds snapshot
      (All-from_recursion (HasRoot (root_of a)) (stored_with r a.blobs.named (last_blobs a)).adds
      (adds_alike r (HasRoot (root_of a)) a.blobs.named (last_blobs a)
      (built_so (HasRoot (root_of a)) (pack_apart (root_of a)) (index_apart (root_of a)) (packs_built r (last_blobs a)))))
      snapshot_root

  -- each blob of the backup is given
  blob_given : (name : BlobId) → IsSome (texts name) → GivesPlace all change name
  blob_given name has = cases (list_any (blob_eq name) a.blobs.named) refl (whole.given name has) where
    cases : (t : Bool) → list_any (blob_eq name) a.blobs.named ≡ t → (t || list_any (blob_eq name) (map blob_id_of (last_blobs a))) ≡ true → GivesPlace all change name
    cases true among _ =
        let place = some_place r name (none_missed r a.blobs.named name last.placed among) in
        named_given r a.blobs.named (last_blobs a) snapshot known all met.part name among place.0 place.1
    cases false _ left = known.storing r all (last_blobs a) change met.part all_short meets.built (takes_more r a.blobs.named (last_blobs a) snapshot) name left

  pub safe_so : (snapshots : Id → Bool) → IsSafe all snapshots c
  safe_so snapshots =
      subst (IsSafe all snapshots) (sym last.change)
      (known.backing_up all snapshots change texts (root_of a) met.one_text
      (last_well_formed r facts tags a change (is ∙ ap Ok last.change)).once adds_met meets.met
      (record {
        no_marks = refl;
        no_drops = refl;
        snapshots = adds_rooted;
        top = whole.root;
        closed = whole.closed;
        given = blob_given;
      }))

pub last_safe : Known → LastIsSafe
last_safe known r all snapshots facts tags a texts c is said tags_are short met meets whole =
    safe_so known r all facts tags a texts c is said tags_are short met meets whole snapshots
