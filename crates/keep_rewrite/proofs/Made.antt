-- A rewrite that is planned can be made.
use Rattle.std.proofs.Common.{◌≡◌, ◌≢◌, ℕ, Bool, true, false, cond, List, [], ◌∷◌, ◌++◌, map, All, IsSome, Option, None, Some, option_map, Less, refl, sym, ap, subst, ◌∙◌}
use Rattle.std.proofs.lemmas.List.Elements.{All-append, All-from_recursion, All-nil, recursion_from_All}
use Rattle.std.specs.FinMap.{get}
use Rattle.std.specs.List.{AllByRecursion, cons_option}
use Rattle.std.specs.List.Sorted.{IsStrictlySortedBy}
use Rattle.keep_names.proofs.Orders.{id_exact, name_exact}
use Rattle.keep_names.specs.FileName.{named}
use Rattle.keep_names.specs.Orders.{id_cmp, name_cmp}
use Rattle.keep_names.specs.Sha256.{sha256}
use Rattle.keep_names.specs.declared.file_name.FileName.{FileName}
use Rattle.keep_names.specs.declared.file_name.Kind.TheVariants.{Snapshot}
use Rattle.keep_names.specs.declared.id.Id.{Id}
use Rattle.keep_repo.specs.Repository.{Repository, held}
use Rattle.keep_snap.specs.Snap.{SnapData}
use Rattle.keep_change.proofs.Apart.{sorted_lists_are_well_formed_lem}
use Rattle.keep_change.proofs.Asking.{what_is_asked_is_met_lem}
use Rattle.keep_change.specs.Change.{Written, added, is_met}
use Rattle.keep_change.specs.Form.{AreNamedByBytes, IsWellFormed}
use Rattle.keep_change.specs.Lists.{AreApart, file_names, marked_packs}
use Rattle.keep_change.specs.NamedBytes.{NamedBytes}
use Rattle.keep_change.specs.declared.change.PackMark.{PackMark}
use Rattle.keep_catalog.specs.Files.{file_in, snap_in, snap_read}
use Rattle.keep_plan.proofs.Made.{added_so, settled_made}
use Rattle.keep_plan.proofs.Ordered.{All-of_map, each_so}
use Rattle.keep_plan.specs.Storing.{CanBeMade, absent_files, stored_built}
use Rattle.keep_plan.specs.declared.stored.Stored.{Stored}
use Rattle.keep_build.proofs.Built.{built_so}
use Rattle.keep_build.specs.Blobs.{BlobData, names_once}
use Rattle.keep_build.specs.Stored.{built, index_file, pack_file, packs_built, stored_of}
use Rattle.keep_rewrite.specs.Rewriting.{Retreed, change_of, new_files, old_file, old_files, old_names, retreed_file}
use Rattle.keep_rewrite.proofs.Listed.{IsBefore, IsOfSnapshot, absent_present, adds_before, all_append, all_by, apart_so, before_snapshots, names_both, never_both, none_sorted, present_before, sorted_both}
use Rattle.keep_plan.proofs.Rising.{rise_made}

-- ---- the old files

abbrev pub IsThere : Repository → Id → Type 0
IsThere r id = IsSome (get r.files (named Snapshot id))

pub snap_there : (r : Repository) (name : Id) (snap : SnapData) → snap_in r name ≡ Some snap → IsThere r name
unfolding snap_in file_in
snap_there r name snap h = cases (get r.files (named Snapshot name)) h where
  cases : (o : Option (List ℕ)) → snap_read o ≡ Some snap → IsSome o
  cases None g = (cc g)
  cases (Some bytes) g = refl

made_as : (r : Repository) (id : Id) (o : Option (List ℕ)) (f : NamedBytes) → option_map (λ bytes. record { name = named Snapshot id; bytes = bytes }) o ≡ Some f
    → (f.name ≡ named Snapshot id) × (o ≡ Some f.bytes)
made_as r id None f is = (cc is)
made_as r id (Some bytes) f is =
    let same : record { name = named Snapshot id; bytes = bytes } ≡ f = cc is in
    (sym (ap (λ (g : NamedBytes). g.name) same), ap (λ (g : NamedBytes). Some g.bytes) same)

above_named : (k : Id) (ids : List Retreed) → AllByRecursion (λ y. id_cmp k y ≡ Less) (map (λ (new : Retreed). new.0) ids) → AllByRecursion (λ n. name_cmp (named Snapshot k) n ≡ Less) (old_names ids)
above_named k [] h = tt
above_named k (y ∷ ids) h = (h.0, above_named k ids h.1)

names_rise : (ids : List Retreed) → IsStrictlySortedBy id_cmp (map (λ (new : Retreed). new.0) ids) → IsStrictlySortedBy name_cmp (old_names ids)
unfolding IsStrictlySortedBy
names_rise [] h = tt
names_rise (k ∷ ids) h = (above_named k.0 ids h.0, names_rise ids h.1)

names_of_snapshots : (ids : List Retreed) → AllByRecursion IsOfSnapshot (old_names ids)
names_of_snapshots [] = tt
names_of_snapshots (k ∷ ids) = ((k.0, refl), names_of_snapshots ids)

module _ (r : Repository) where
  each_made : {P : NamedBytes → Type 0} → ((new : Retreed) (f : NamedBytes) → old_file r new ≡ Some f → P f) → (ids : List Retreed) → AllByRecursion P (old_files r ids)
  each_made so [] = tt
  each_made {P} so (new ∷ ids) = cases (each_made so ids) (old_file r new) refl where
    cases : AllByRecursion P (old_files r ids) → (o : Option NamedBytes) → old_file r new ≡ o → AllByRecursion P (cons_option o (old_files r ids))
    cases rest None is = rest
    cases rest (Some f) is = (so new f is, rest)

  parts : (new : Retreed) (f : NamedBytes) → old_file r new ≡ Some f → (f.name ≡ named Snapshot new.0) × (get r.files (named Snapshot new.0) ≡ Some f.bytes)
  parts new f is = made_as r new.0 (get r.files (named Snapshot new.0)) f is

  olds_rise : (ids : List Retreed) → IsStrictlySortedBy id_cmp (map (λ (new : Retreed). new.0) ids) → IsStrictlySortedBy name_cmp (file_names (old_files r ids))
  olds_rise ids h = rise_made name_cmp (λ (new : Retreed). named Snapshot new.0) (λ (f : NamedBytes). f.name) (old_file r) (λ new f is. (parts new f is).0) ids (names_rise ids h)

  olds_there : (ids : List Retreed) → AllByRecursion (λ (f : NamedBytes). get r.files f.name ≡ Some f.bytes) (old_files r ids)
  olds_there ids = each_made (λ new f is. ap (get r.files) (parts new f is).0 ∙ (parts new f is).1) ids

  pub olds_of_snapshots : (ids : List Retreed) → AllByRecursion (λ (f : NamedBytes). IsOfSnapshot f.name) (old_files r ids)
  olds_of_snapshots ids = each_made (λ new f is. (new.0, (parts new f is).0)) ids

  -- ---- the new files

  module _ (forget : Bool) where
    new_own : (snap : SnapData) (new : Retreed) → (retreed_file forget snap new).name.id.0 ≡ sha256 (retreed_file forget snap new).bytes
    unfolding retreed_file
    new_own snap new = refl

    new_snapshot : (snap : SnapData) (new : Retreed) → IsOfSnapshot (retreed_file forget snap new).name
    unfolding retreed_file
    new_snapshot snap new = ((retreed_file forget snap new).name.id, refl)

    each_new : (P : NamedBytes → Type 0) → ((snap : SnapData) (new : Retreed) → P (retreed_file forget snap new)) → (ids : List Retreed) → AllByRecursion P (new_files r forget ids)
    each_new P so [] = tt
    each_new P so (new ∷ ids) = cases (each_new P so ids) (snap_in r new.0) where
      cases : AllByRecursion P (new_files r forget ids) → (o : Option SnapData) → AllByRecursion P (cons_option (option_map (λ snap. retreed_file forget snap new) o) (new_files r forget ids))
      cases rest None = rest
      cases rest (Some snap) = (so snap new, rest)

    news_own : (ids : List Retreed) → AreNamedByBytes (new_files r forget ids)
    news_own ids = All-from_recursion (λ (f : NamedBytes). f.name.id.0 ≡ sha256 f.bytes) (new_files r forget ids) (each_new (λ (f : NamedBytes). f.name.id.0 ≡ sha256 f.bytes) new_own ids)

    pub news_of_snapshots : (ids : List Retreed) → AllByRecursion (λ (f : NamedBytes). IsOfSnapshot f.name) (absent_files r (new_files r forget ids))
    news_of_snapshots ids = added_so r (λ (f : NamedBytes). IsOfSnapshot f.name) (new_files r forget ids) (each_new (λ (f : NamedBytes). IsOfSnapshot f.name) new_snapshot ids)

-- ---- the change

is_some_of : {X : Type 0} (o : Option X) (x : X) → o ≡ Some x → IsSome o
is_some_of None x h = cc h
is_some_of (Some y) x h = refl

-- the snapshots can be read, and stand in the order of their names
pub record AreOld (r : Repository) (retreed : List Retreed) : Type 0 where
  pub there : AllByRecursion (λ (new : Retreed). IsThere r new.0) retreed
  pub rise : IsStrictlySortedBy id_cmp (map (λ (new : Retreed). new.0) retreed)

pack_own : (blobs : List BlobData) → (pack_file blobs).name.id.0 ≡ sha256 (pack_file blobs).bytes
unfolding pack_file
pack_own blobs = refl

index_own : (packs : List (List BlobData)) → (index_file packs).name.id.0 ≡ sha256 (index_file packs).bytes
unfolding index_file
index_own packs = refl

can_be_stored : (r : Repository) (blobs : List BlobData) → CanBeMade r (stored_of r blobs)
unfolding stored_of
can_be_stored r blobs =
    settled_made r (names_once blobs) (built r blobs)
    (All-from_recursion (λ (f : NamedBytes). f.name.id.0 ≡ sha256 f.bytes) (built r blobs) (built_so (λ (f : NamedBytes). f.name.id.0 ≡ sha256 f.bytes) pack_own index_own (packs_built r blobs)))

-- files that are absent can be added
record CanBeAdded (r : Repository) (adds : List NamedBytes) : Type 0 where
  pub in_order : IsStrictlySortedBy name_cmp (file_names adds)
  pub named : AreNamedByBytes adds
  pub absent : All (λ (f : NamedBytes). get r.files f.name ≡ None) adds

from_settled : (r : Repository) (files : List NamedBytes) → CanBeMade r (stored_built r [] files) → CanBeAdded r (absent_files r files)
unfolding stored_built
from_settled r files can = record { in_order = can.adds_in_order; named = can.named; absent = can.adds }

can_be_added : (r : Repository) (files : List NamedBytes) → AreNamedByBytes files → CanBeAdded r (absent_files r files)
can_be_added r files own = from_settled r files (settled_made r [] files own)

module _ (r : Repository) (forget : Bool) (blobs : List BlobData) (retreed : List Retreed) (old : AreOld r retreed) (some : absent_files r (new_files r forget retreed) ≢ []) where
  abbrev stored : Stored
  stored = stored_of r blobs

  abbrev adds : List NamedBytes
  adds = absent_files r (new_files r forget retreed)

  abbrev IsAbsent : FileName → Type 0
  IsAbsent name = get r.files name ≡ None

  abbrev IsPresent : FileName → Type 0
  IsPresent name = IsSome (get r.files name)

  abbrev HasMark : Id → Type 0
  HasMark pack = IsSome (get r.marks pack)

  abbrev HasNone : Id → Type 0
  HasNone pack = get r.marks pack ≡ None

  can : CanBeMade r stored
  can = can_be_stored r blobs

  more : CanBeAdded r adds
  more = can_be_added r (new_files r forget retreed) (news_own r forget retreed)

  all_adds : All (λ (f : NamedBytes). IsAbsent f.name) (stored.adds ++ adds)
  all_adds = All-append (λ (f : NamedBytes). IsAbsent f.name) stored.adds adds can.adds more.absent

  add_names : AllByRecursion IsAbsent (file_names (stored.adds ++ adds))
  add_names = All-of_map IsAbsent (λ (f : NamedBytes). f.name) (stored.adds ++ adds) (recursion_from_All (λ (f : NamedBytes). IsAbsent f.name) (stored.adds ++ adds) all_adds)

  snapshot_names : AllByRecursion IsOfSnapshot (file_names adds)
  snapshot_names = All-of_map IsOfSnapshot (λ (f : NamedBytes). f.name) adds (news_of_snapshots r forget retreed)

  store_names : AllByRecursion IsBefore (file_names stored.adds)
  store_names = All-of_map IsBefore (λ (f : NamedBytes). f.name) stored.adds (adds_before r blobs)

  adds_rise : IsStrictlySortedBy name_cmp (file_names (stored.adds ++ adds))
  adds_rise =
      subst (λ (names : List FileName). IsStrictlySortedBy name_cmp names) (sym (names_both stored.adds adds))
      (sorted_both name_cmp (file_names stored.adds) (file_names adds) can.adds_in_order more.in_order
      (all_by IsBefore (λ k. AllByRecursion (λ l. name_cmp k l ≡ Less) (file_names adds)) (λ k. before_snapshots (file_names adds) snapshot_names k) (file_names stored.adds) store_names))

  -- ---- what is dropped, and what has to be present

  abbrev drops_if : Bool → List NamedBytes
  drops_if b = cond b (old_files r retreed) []

  abbrev present_if : Bool → List FileName
  present_if b = cond b stored.present (stored.present ++ old_names retreed)

  drops_rise : (b : Bool) → IsStrictlySortedBy name_cmp (file_names (drops_if b))
  drops_rise true = olds_rise r retreed old.rise
  drops_rise false = none_sorted name_cmp

  drops_there : (b : Bool) → AllByRecursion (λ (f : NamedBytes). get r.files f.name ≡ Some f.bytes) (drops_if b)
  drops_there true = olds_there r retreed
  drops_there false = tt

  drop_names : (b : Bool) → AllByRecursion IsPresent (file_names (drops_if b))
  drop_names b =
      All-of_map IsPresent (λ (f : NamedBytes). f.name) (drops_if b)
      (each_so (λ (f : NamedBytes). get r.files f.name ≡ Some f.bytes) (λ (f : NamedBytes). IsPresent f.name) (λ f h. is_some_of (get r.files f.name) f.bytes h) (drops_if b) (drops_there b))

  present_rise : (b : Bool) → IsStrictlySortedBy name_cmp (present_if b)
  present_rise true = can.present_in_order
  present_rise false =
      sorted_both name_cmp stored.present (old_names retreed) can.present_in_order (names_rise retreed old.rise)
      (all_by IsBefore (λ k. AllByRecursion (λ l. name_cmp k l ≡ Less) (old_names retreed)) (λ k. before_snapshots (old_names retreed) (names_of_snapshots retreed) k) stored.present (present_before r blobs))

  olds_present : (ids : List Retreed) → AllByRecursion (λ (new : Retreed). IsThere r new.0) ids → AllByRecursion IsPresent (old_names ids)
  olds_present [] h = tt
  olds_present (new ∷ ids) h = (h.0, olds_present ids h.1)

  present_there : (b : Bool) → AllByRecursion IsPresent (present_if b)
  present_there true = recursion_from_All IsPresent stored.present can.present
  present_there false = all_append IsPresent stored.present (old_names retreed) (recursion_from_All IsPresent stored.present can.present) (olds_present retreed old.there)

  -- what is dropped need not be present
  drops_apart : (b : Bool) → AreApart name_cmp (file_names (drops_if b)) (present_if b)
  drops_apart true =
      apart_so name_exact IsOfSnapshot IsBefore (file_names (old_files r retreed)) stored.present (λ k is before. never_both k before is)
      (All-of_map IsOfSnapshot (λ (f : NamedBytes). f.name) (old_files r retreed) (olds_of_snapshots r retreed)) (present_before r blobs)
  drops_apart false = λ k h. (cc h)

  clear_packs : AllByRecursion HasMark (marked_packs stored.clears)
  clear_packs =
      All-of_map HasMark (λ (m : PackMark). m.pack) stored.clears
      (each_so (λ (m : PackMark). get r.marks m.pack ≡ Some m.mark) (λ (m : PackMark). HasMark m.pack) (λ m h. is_some_of (get r.marks m.pack) m.mark h) stored.clears
      (recursion_from_All (λ (m : PackMark). get r.marks m.pack ≡ Some m.mark) stored.clears can.clears))

  something : (xs ys : List NamedBytes) (rest : List Written) → ys ≢ [] → map added (xs ++ ys) ++ rest ≢ []
  something [] [] rest h e = absurd (h refl)
  something [] (y ∷ ys) rest h e = (cc e)
  something (x ∷ xs) ys rest h e = (cc e)

  pub rewrite_well_formed : IsWellFormed (change_of r forget stored retreed adds)
  rewrite_well_formed =
      sorted_lists_are_well_formed_lem (change_of r forget stored retreed adds)
      (record {
        adds = adds_rise;
        drops = drops_rise forget;
        sets = none_sorted _;
        clears = can.clears_in_order;
        present = present_rise forget;
        absent = none_sorted _;
        marked = none_sorted _;
        unmarked = can.unmarked_in_order;
      })
      (record {
        adds_drops = apart_so name_exact IsAbsent IsPresent (file_names (stored.adds ++ adds)) (file_names (drops_if forget)) (λ name. absent_present (get r.files name)) add_names (drop_names forget);
        adds_present = apart_so name_exact IsAbsent IsPresent (file_names (stored.adds ++ adds)) (present_if forget) (λ name. absent_present (get r.files name)) add_names (present_there forget);
        adds_absent = λ k h. refl;
        drops_present = drops_apart forget;
        drops_absent = λ k h. refl;
        present_absent = λ k h. refl;
      })
      (record {
        sets_clears = λ k h. (cc h);
        sets_marked = λ k h. refl;
        sets_unmarked = λ k h. (cc h);
        clears_marked = λ k h. refl;
        clears_unmarked = apart_so id_exact HasMark HasNone (marked_packs stored.clears) stored.unmarked (λ pack g h. absent_present (get r.marks pack) h g) clear_packs (recursion_from_All HasNone stored.unmarked can.unmarked);
        marked_unmarked = λ k h. (cc h);
      })
      (All-append (λ (f : NamedBytes). f.name.id.0 ≡ sha256 f.bytes) stored.adds adds can.named more.named)
      (something stored.adds adds _ some)

  pub rewrite_met : is_met (held r) (change_of r forget stored retreed adds) ≡ true
  rewrite_met =
      what_is_asked_is_met_lem (change_of r forget stored retreed adds) r
      (record {
        adds = all_adds;
        drops = All-from_recursion (λ (f : NamedBytes). get r.files f.name ≡ Some f.bytes) (drops_if forget) (drops_there forget);
        sets = All-nil (λ (m : PackMark). get r.marks m.pack ≡ None);
        clears = can.clears;
        present = All-from_recursion IsPresent (present_if forget) (present_there forget);
        absent = All-nil IsAbsent;
        marked = All-nil HasMark;
        unmarked = can.unmarked;
      })
