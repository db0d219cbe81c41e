-- What an archive plans can be committed.
use Rattle.std.proofs.Common.{◌≡◌, ◌≢◌, ℕ, Bool, true, false, ◌&&◌, cond, List, [], ◌∷◌, ◌++◌, length, map, nat_le, IsSome, Option, None, Some, Less, Ok, Err, refl, sym, subst}
use Rattle.std.specs.FinMap.{get}
use Rattle.std.specs.List.{AllByRecursion}
use Rattle.std.proofs.lemmas.List.Elements.{All-nil, recursion_from_All}
use Rattle.keep_names.proofs.Orders.{id_exact, name_exact}
use Rattle.keep_names.specs.Orders.{name_cmp}
use Rattle.keep_names.specs.declared.blob.BlobId.{BlobId}
use Rattle.keep_names.specs.declared.file_name.FileName.{FileName}
use Rattle.keep_names.specs.declared.id.Id.{Id}
use Rattle.keep_repo.specs.Repository.{Repository, held}
use Rattle.keep_change.proofs.Apart.{sorted_lists_are_well_formed_lem}
use Rattle.keep_change.proofs.Asking.{what_is_asked_is_met_lem}
use Rattle.keep_change.specs.Change.{Written, added, cleared, is_met}
use Rattle.keep_change.specs.Form.{IsWellFormed}
use Rattle.keep_change.specs.Lists.{HasWhatIsAsked, file_names, marked_packs}
use Rattle.keep_change.specs.NamedBytes.{NamedBytes}
use Rattle.keep_change.specs.declared.change.Change.{Change}
use Rattle.keep_change.specs.declared.change.PackMark.{PackMark}
use Rattle.keep_plan.proofs.Made.{added_so, settled_made}
use Rattle.keep_plan.proofs.Ordered.{All-of_map, each_so}
use Rattle.keep_plan.specs.Refusal.{unless, unread_first}
use Rattle.keep_plan.specs.Storing.{CanBeMade, is_there, stored_built}
use Rattle.keep_plan.specs.declared.plan_error.PlanError.{PlanError}
use Rattle.keep_plan.specs.declared.plan_error.PlanError.TheVariants.{SnapshotThere}
use Rattle.keep_plan.specs.declared.stored.Stored.{Stored}
use Rattle.keep_build.proofs.Answering.{none_named}
use Rattle.keep_build.proofs.Built.{IsBelow, IsOwn, built_own, built_so, index_below, pack_below}
use Rattle.keep_backup.proofs.Committed.{absent_present, apart_so, asked_so, is_some_of, marked_unmarked, no_file, none_sorted, well_formed_so}
use Rattle.keep_backup.specs.Backup.{FactsData, bad_time, change_of, planned, tagged_file}
use Rattle.keep_build.specs.Blobs.{BlobData, id_of, names_once, tree_blob}
use Rattle.keep_build.specs.Stored.{built, packs_built, stored_of, stored_with}
use Rattle.keep_archive.specs.Archive.{ArchiveData}
use Rattle.keep_archive.specs.Plans.{is_idle, last_blobs, last_change, last_stored, missing_first, part_change, part_if_any, part_of, planned_of, unclosed}
use Rattle.keep_archive.specs.Steps.{full_refusal}

-- ---- what is stored

pub can_be_stored : (r : Repository) (named : List BlobId) (blobs : List BlobData) → CanBeMade r (stored_with r named blobs)
unfolding stored_with
can_be_stored r named blobs = settled_made r (named ++ names_once blobs) (built r blobs) (built_own r blobs)

stored_below : (id : Id) (r : Repository) (named : List BlobId) (blobs : List BlobData) → AllByRecursion (IsBelow id) (stored_with r named blobs).adds
unfolding stored_with stored_built
stored_below id r named blobs = added_so r (IsBelow id) (built r blobs) (built_so (IsBelow id) (pack_below id) (index_below id) (packs_built r blobs))

-- ---- the last change

-- the last change, and that nothing refuses it
pub record IsLast (r : Repository) (facts : FactsData) (tags : List (List ℕ)) (a : ArchiveData) (c : Change) : Type 0 where
  pub timed : bad_time facts ≡ None
  pub short : full_refusal a.place ≡ None
  pub placed : missing_first r a.blobs.named ≡ None
  pub absent : is_there r (tagged_file facts tags (id_of (tree_blob a.place.nodes))).name ≡ false
  pub change : c ≡ change_of (stored_with r a.blobs.named (last_blobs a)) (tagged_file facts tags (id_of (tree_blob a.place.nodes)))

module _ (r : Repository) (facts : FactsData) (tags : List (List ℕ)) (a : ArchiveData) (c : Change) where
  abbrev tree : Id
  tree = id_of (tree_blob a.place.nodes)

  abbrev stored : Stored
  stored = stored_with r a.blobs.named (last_blobs a)

  when_stored : bad_time facts ≡ None → full_refusal a.place ≡ None → missing_first r a.blobs.named ≡ None
      → planned r stored (tagged_file facts tags tree) ≡ Ok c → IsLast r facts tags a c
  when_stored timed short placed is = cases (is_there r (tagged_file facts tags tree).name) refl is where
    cases : (b : Bool) → is_there r (tagged_file facts tags tree).name ≡ b → cond b (Err SnapshotThere) (Ok (change_of stored (tagged_file facts tags tree))) ≡ Ok c → IsLast r facts tags a c
    cases true there h = (cc h)
    cases false absent h = record { timed = timed; short = short; placed = placed; absent = absent; change = cc h }

  when_timed : bad_time facts ≡ None → (first second third : Option PlanError) → full_refusal a.place ≡ second → missing_first r a.blobs.named ≡ third
      → planned_of r facts tags (unless first (unless second (unless third (Ok (tree, stored))))) ≡ Ok c → IsLast r facts tags a c
  when_timed timed (Some why) second third short placed is = (cc is)
  when_timed timed None (Some why) third short placed is = (cc is)
  when_timed timed None None (Some why) short placed is = (cc is)
  when_timed timed None None None short placed is = when_stored timed short placed is

  when_closed : (first second : Option PlanError) → bad_time facts ≡ second → unless first (unless second (planned_of r facts tags (last_stored r a))) ≡ Ok c → IsLast r facts tags a c
  when_closed (Some why) second timed is = (cc is)
  when_closed None (Some why) timed is = (cc is)
  when_closed None None timed is = when_timed timed (unread_first r) (full_refusal a.place) (missing_first r a.blobs.named) refl refl is

  pub is_last : last_change r facts tags a ≡ Ok c → IsLast r facts tags a c
  is_last is = when_closed (unclosed a.place) (bad_time facts) refl is

  tagged_own : IsOwn (tagged_file facts tags tree)
  unfolding tagged_file
  tagged_own = refl

  below_so : AllByRecursion (λ (f : NamedBytes). name_cmp f.name (tagged_file facts tags tree).name ≡ Less) stored.adds
  unfolding tagged_file
  below_so = stored_below (tagged_file facts tags tree).name.id r a.blobs.named (last_blobs a)

  pub last_well_formed : last_change r facts tags a ≡ Ok c → IsWellFormed c
  last_well_formed is =
      let last = is_last is in
      subst IsWellFormed (sym last.change)
      (well_formed_so r stored (tagged_file facts tags tree) (can_be_stored r a.blobs.named (last_blobs a)) below_so tagged_own (no_file r (tagged_file facts tags tree).name last.absent))

  pub last_met : last_change r facts tags a ≡ Ok c → is_met (held r) c ≡ true
  last_met is =
      let last = is_last is in
      subst (λ (d : Change). is_met (held r) d ≡ true) (sym last.change)
      (what_is_asked_is_met_lem (change_of stored (tagged_file facts tags tree)) r
      (asked_so r stored (tagged_file facts tags tree) (can_be_stored r a.blobs.named (last_blobs a)) below_so tagged_own (no_file r (tagged_file facts tags tree).name last.absent)))

-- ---- a part

writes_some : (adds : List NamedBytes) (clears : List PackMark) (rest : List Written) → (nat_le (length adds) 0 && nat_le (length clears) 0) ≡ false
    → map added adds ++ map cleared clears ≢ []
writes_some [] [] rest idle e = (cc idle)
writes_some [] (m ∷ ms) rest idle e = (cc e)
writes_some (f ∷ fs) clears rest idle e = (cc e)

module _ (r : Repository) (stored : Stored) (can : CanBeMade r stored) (busy : is_idle stored ≡ false) where
  abbrev IsAbsent : FileName → Type 0
  IsAbsent name = get r.files name ≡ None

  abbrev IsPresent : FileName → Type 0
  IsPresent name = IsSome (get r.files name)

  abbrev HasMark : Id → Type 0
  HasMark pack = IsSome (get r.marks pack)

  abbrev HasNone : Id → Type 0
  HasNone pack = get r.marks pack ≡ None

  add_names : AllByRecursion IsAbsent (file_names stored.adds)
  add_names = All-of_map IsAbsent (λ (f : NamedBytes). f.name) stored.adds (recursion_from_All (λ (f : NamedBytes). IsAbsent f.name) stored.adds can.adds)

  clear_packs : AllByRecursion HasMark (marked_packs stored.clears)
  clear_packs =
      All-of_map HasMark (λ (m : PackMark). m.pack) stored.clears
      (each_so (λ (m : PackMark). get r.marks m.pack ≡ Some m.mark) (λ (m : PackMark). HasMark m.pack) (λ m h. is_some_of (get r.marks m.pack) m.mark h) stored.clears
      (recursion_from_All (λ (m : PackMark). get r.marks m.pack ≡ Some m.mark) stored.clears can.clears))

  part_formed : IsWellFormed (part_of stored)
  part_formed =
      sorted_lists_are_well_formed_lem (part_of stored)
      (record {
        adds = can.adds_in_order;
        drops = none_sorted _;
        sets = none_sorted _;
        clears = can.clears_in_order;
        present = can.present_in_order;
        absent = none_sorted _;
        marked = none_sorted _;
        unmarked = can.unmarked_in_order;
      })
      (record {
        adds_drops = λ k h. refl;
        adds_present = apart_so name_exact IsAbsent IsPresent (file_names stored.adds) stored.present (λ name. absent_present (get r.files name)) add_names (recursion_from_All IsPresent stored.present can.present);
        adds_absent = λ k h. refl;
        drops_present = λ k h. (cc h);
        drops_absent = λ k h. refl;
        present_absent = λ k h. refl;
      })
      (record {
        sets_clears = λ k h. (cc h);
        sets_marked = λ k h. refl;
        sets_unmarked = λ k h. (cc h);
        clears_marked = λ k h. refl;
        clears_unmarked = apart_so id_exact HasMark HasNone (marked_packs stored.clears) stored.unmarked (λ pack. marked_unmarked (get r.marks pack)) clear_packs (recursion_from_All HasNone stored.unmarked can.unmarked);
        marked_unmarked = λ k h. (cc h);
      })
      can.named
      (writes_some stored.adds stored.clears [] busy)

  part_asked : HasWhatIsAsked (part_of stored) r
  part_asked = record {
    adds = can.adds;
    drops = All-nil (λ (f : NamedBytes). get r.files f.name ≡ Some f.bytes);
    sets = All-nil (λ (m : PackMark). get r.marks m.pack ≡ None);
    clears = can.clears;
    present = can.present;
    absent = All-nil IsAbsent;
    marked = All-nil HasMark;
    unmarked = can.unmarked;
  }

-- the change of a part is that of what is held
pub is_part : (r : Repository) (a : ArchiveData) (c : Change) → part_change r a ≡ Ok (Some c) → (is_idle (stored_of r a.blobs.held) ≡ false) × (c ≡ part_of (stored_of r a.blobs.held))
is_part r a c is = read_so (unread_first r) is where
  stored : Stored
  stored = stored_of r a.blobs.held

  any_so : (b : Bool) → is_idle stored ≡ b → cond b None (Some (part_of stored)) ≡ Some c → (is_idle stored ≡ false) × (c ≡ part_of stored)
  any_so true idle h = (cc h)
  any_so false busy h = (busy, cc h)

  read_so : (why : Option PlanError) → unless why (Ok (part_if_any stored)) ≡ Ok (Some c) → (is_idle stored ≡ false) × (c ≡ part_of stored)
  read_so (Some error) h = (cc h)
  read_so None h =
      let some : part_if_any stored ≡ Some c = cc h in
      any_so (is_idle stored) refl some

can_be_part : (r : Repository) (blobs : List BlobData) → CanBeMade r (stored_of r blobs)
can_be_part r blobs = subst (λ (stored : Stored). CanBeMade r stored) (none_named r blobs) (can_be_stored r [] blobs)

pub part_well_formed : (r : Repository) (a : ArchiveData) (c : Change) → part_change r a ≡ Ok (Some c) → IsWellFormed c
part_well_formed r a c is =
    let part = is_part r a c is in
    subst IsWellFormed (sym part.1) (part_formed r (stored_of r a.blobs.held) (can_be_part r a.blobs.held) part.0)

pub part_met : (r : Repository) (a : ArchiveData) (c : Change) → part_change r a ≡ Ok (Some c) → is_met (held r) c ≡ true
part_met r a c is =
    let part = is_part r a c is in
    subst (λ (d : Change). is_met (held r) d ≡ true) (sym part.1)
    (what_is_asked_is_met_lem (part_of (stored_of r a.blobs.held)) r (part_asked r (stored_of r a.blobs.held) (can_be_part r a.blobs.held) part.0))
