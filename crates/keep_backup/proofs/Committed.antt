-- A backup that is planned can be committed.
use Rattle.std.proofs.Common.{◌≡◌, ◌≢◌, ℕ, Bool, true, false, ◌||◌, cond, List, [], ◌∷◌, ◌++◌, map, All, IsSome, Option, None, Some, Ordering, Less, is_some, Result, Ok, Err, refl, sym, ap, subst, ◌∙◌}
use Rattle.std.specs.FinMap.{IsAntisymmetric, get}
use Rattle.std.specs.List.{AllByRecursion, list_any}
use Rattle.std.specs.List.Sorted.{IsStrictlySortedBy}
use Rattle.std.specs.Ordering.{eq_by_cmp}
use Rattle.std.proofs.lemmas.List.Elements.{All-nil, All-push, recursion_from_All}
use Rattle.std.proofs.lemmas.Map.Views.{tells_apart}
use Rattle.keep_names.proofs.Orders.{id_exact, name_exact}
use Rattle.keep_names.specs.FileName.{named}
use Rattle.keep_names.specs.Orders.{name_cmp}
use Rattle.keep_names.specs.declared.file_name.FileName.{FileName}
use Rattle.keep_names.specs.declared.id.Id.{Id}
use Rattle.keep_repo.specs.Repository.{Repository, held}
use Rattle.keep_change.proofs.Apart.{sorted_lists_are_well_formed_lem}
use Rattle.keep_change.proofs.Asking.{what_is_asked_is_met_lem}
use Rattle.keep_change.specs.Change.{Written, added, is_met}
use Rattle.keep_change.specs.Form.{IsWellFormed}
use Rattle.keep_change.specs.Lists.{AreApart, HasWhatIsAsked, file_names, marked_packs}
use Rattle.keep_change.specs.NamedBytes.{NamedBytes}
use Rattle.keep_change.specs.declared.change.Change.{Change}
use Rattle.keep_change.specs.declared.change.PackMark.{PackMark}
use Rattle.keep_plan.proofs.Made.{settled_made}
use Rattle.keep_plan.proofs.Ordered.{All-of_map, each_so}
use Rattle.keep_plan.specs.Refusal.{unless, unread_first}
use Rattle.keep_plan.specs.Storing.{CanBeMade, is_there}
use Rattle.keep_plan.specs.declared.plan_error.PlanError.{PlanError}
use Rattle.keep_plan.specs.declared.plan_error.PlanError.TheVariants.{SnapshotThere}
use Rattle.keep_plan.specs.declared.stored.Stored.{Stored}
use Rattle.keep_backup.specs.Backup.{FactsData, backup_change, backup_of, bad_time, change_of, planned, planned_of, snapshot_file, stored_files_of}
use Rattle.keep_build.proofs.Built.{IsBelow, IsOwn, adds_so, built_own, built_so, index_below, pack_below}
use Rattle.keep_build.specs.Blobs.{BlobData, id_of, names_once}
use Rattle.keep_backup.specs.Folders.{root_folder}
use Rattle.keep_backup.specs.Paths.{FileData, files_in_order}
use Rattle.keep_build.specs.Stored.{built, packs_built, stored_of}
use Rattle.keep_backup.specs.Walk.{blobs_of, root_tree, walk_refusal}

-- ---- lists

sorted_push : {K : Type 0} (R : K → K → Ordering) (ks : List K) (k : K) → IsStrictlySortedBy R ks → AllByRecursion (λ x. R x k ≡ Less) ks → IsStrictlySortedBy R (ks ++ k ∷ [])
unfolding IsStrictlySortedBy
sorted_push R [] k h g = (tt, tt)
sorted_push R (x ∷ xs) k h g = (all_push xs h.0, sorted_push R xs k h.1 g.1) where
  all_push : (ys : List _) → AllByRecursion (λ y. R x y ≡ Less) ys → AllByRecursion (λ y. R x y ≡ Less) (ys ++ k ∷ [])
  all_push [] a = (g.0, tt)
  all_push (y ∷ ys) a = (a.0, all_push ys a.1)

pub none_sorted : {K : Type 0} (R : K → K → Ordering) → IsStrictlySortedBy R []
unfolding IsStrictlySortedBy
none_sorted R = tt

names_push : (files : List NamedBytes) (file : NamedBytes) → file_names (files ++ file ∷ []) ≡ file_names files ++ file.name ∷ []
names_push [] file = refl
names_push (f ∷ fs) file = ap (λ (names : List FileName). f.name ∷ names) (names_push fs file)

-- two lists of which different things hold are apart
module _ {K : Type 0} {R : K → K → Ordering} (exact : IsAntisymmetric R) where
  found_so : (P : K → Type 0) (k : K) (ks : List K) → AllByRecursion P ks → list_any (eq_by_cmp R k) ks ≡ true → P k
  found_so P k [] h is = cc is
  found_so P k (x ∷ xs) h is = cases (found_so P k xs h.1) (eq_by_cmp R k x) refl is where
    cases : (list_any (eq_by_cmp R k) xs ≡ true → P k) → (b : Bool) → eq_by_cmp R k x ≡ b → (b || list_any (eq_by_cmp R k) xs) ≡ true → P k
    cases later true same found = subst P (sym (tells_apart exact k x same)) h.0
    cases later false other found = later found

  pub apart_so : (P Q : K → Type 0) (ks ls : List K) → ((k : K) → P k → Q k → ⊥) → AllByRecursion P ks → AllByRecursion Q ls → AreApart R ks ls
  apart_so P Q ks ls never p q k is = cases (list_any (eq_by_cmp R k) ls) refl where
    cases : (b : Bool) → list_any (eq_by_cmp R k) ls ≡ b → b ≡ false
    cases true found = absurd (never k (found_so P k ks p is) (found_so Q k ls q found))
    cases false none = refl

-- ---- the change

pub absent_present : {X : Type 0} (o : Option X) → o ≡ None → IsSome o → ⊥
absent_present None h g = cc g
absent_present (Some x) h g = cc h

pub marked_unmarked : {X : Type 0} (o : Option X) → IsSome o → o ≡ None → ⊥
marked_unmarked o g h = absent_present o h g

something : (adds : List NamedBytes) (file : NamedBytes) (rest : List Written) → map added (adds ++ file ∷ []) ++ rest ≢ []
something [] file rest e = (cc e)
something (f ∷ fs) file rest e = (cc e)

pub is_some_of : {X : Type 0} (o : Option X) (x : X) → o ≡ Some x → IsSome o
is_some_of None x h = cc h
is_some_of (Some y) x h = refl

module _ (r : Repository) (stored : Stored) (snapshot : NamedBytes) (can : CanBeMade r stored)
    (below : AllByRecursion (λ (f : NamedBytes). name_cmp f.name snapshot.name ≡ Less) stored.adds)
    (own : IsOwn snapshot) (new : get r.files snapshot.name ≡ None) where
  abbrev IsAbsent : FileName → Type 0
  IsAbsent name = get r.files name ≡ None

  abbrev IsPresent : FileName → Type 0
  IsPresent name = IsSome (get r.files name)

  abbrev HasMark : Id → Type 0
  HasMark pack = IsSome (get r.marks pack)

  abbrev HasNone : Id → Type 0
  HasNone pack = get r.marks pack ≡ None

  all_adds : All (λ (f : NamedBytes). IsAbsent f.name) (stored.adds ++ snapshot ∷ [])
  all_adds = All-push (λ (f : NamedBytes). IsAbsent f.name) stored.adds snapshot can.adds new

  add_names : AllByRecursion IsAbsent (file_names (stored.adds ++ snapshot ∷ []))
  add_names = All-of_map IsAbsent (λ (f : NamedBytes). f.name) (stored.adds ++ snapshot ∷ []) (recursion_from_All (λ (f : NamedBytes). IsAbsent f.name) (stored.adds ++ snapshot ∷ []) all_adds)

  clear_packs : AllByRecursion HasMark (marked_packs stored.clears)
  clear_packs =
      All-of_map HasMark (λ (m : PackMark). m.pack) stored.clears
      (each_so (λ (m : PackMark). get r.marks m.pack ≡ Some m.mark) (λ (m : PackMark). HasMark m.pack) (λ m h. is_some_of (get r.marks m.pack) m.mark h) stored.clears
      (recursion_from_All (λ (m : PackMark). get r.marks m.pack ≡ Some m.mark) stored.clears can.clears))

  pub well_formed_so : IsWellFormed (change_of stored snapshot)
  well_formed_so =
      sorted_lists_are_well_formed_lem (change_of stored snapshot)
      (record {
        adds = subst (λ (names : List FileName). IsStrictlySortedBy name_cmp names) (sym (names_push stored.adds snapshot))
            (sorted_push name_cmp (file_names stored.adds) snapshot.name can.adds_in_order (All-of_map (λ name. name_cmp name snapshot.name ≡ Less) (λ (f : NamedBytes). f.name) stored.adds below));
        drops = none_sorted _;
        sets = none_sorted _;
        clears = can.clears_in_order;
        present = can.present_in_order;
        absent = none_sorted _;
        marked = none_sorted _;
        unmarked = can.unmarked_in_order;
      })
      (record {
        adds_drops = λ k h. refl;
        adds_present = apart_so name_exact IsAbsent IsPresent (file_names (stored.adds ++ snapshot ∷ [])) stored.present (λ name. absent_present (get r.files name)) add_names (recursion_from_All IsPresent stored.present can.present);
        adds_absent = λ k h. refl;
        drops_present = λ k h. (cc h);
        drops_absent = λ k h. refl;
        present_absent = λ k h. refl;
      })
      (record {
        sets_clears = λ k h. (cc h);
        sets_marked = λ k h. refl;
        sets_unmarked = λ k h. (cc h);
        clears_marked = λ k h. refl;
        clears_unmarked = apart_so id_exact HasMark HasNone (marked_packs stored.clears) stored.unmarked (λ pack. marked_unmarked (get r.marks pack)) clear_packs (recursion_from_All HasNone stored.unmarked can.unmarked);
        marked_unmarked = λ k h. (cc h);
      })
      (All-push IsOwn stored.adds snapshot can.named own)
      (something stored.adds snapshot _)

  pub asked_so : HasWhatIsAsked (change_of stored snapshot) r
  asked_so = record {
    adds = all_adds;
    drops = All-nil (λ (f : NamedBytes). get r.files f.name ≡ Some f.bytes);
    sets = All-nil (λ (m : PackMark). get r.marks m.pack ≡ None);
    clears = can.clears;
    present = can.present;
    absent = All-nil IsAbsent;
    marked = All-nil HasMark;
    unmarked = can.unmarked;
  }

-- ---- the plan

module _ (r : Repository) (facts : FactsData) where
  snapshot_own : (tree : Id) → IsOwn (snapshot_file facts tree)
  unfolding snapshot_file
  snapshot_own tree = refl

  can_be_made : (blobs : List BlobData) → CanBeMade r (stored_of r blobs)
  unfolding stored_of
  can_be_made blobs = settled_made r (names_once blobs) (built r blobs) (built_own r blobs)

  adds_below : (tree : Id) (blobs : List BlobData) → AllByRecursion (λ (f : NamedBytes). name_cmp f.name (snapshot_file facts tree).name ≡ Less) (stored_of r blobs).adds
  unfolding snapshot_file
  adds_below tree blobs =
      let id = (snapshot_file facts tree).name.id in
      adds_so r (IsBelow id) blobs (built_so (IsBelow id) (pack_below id) (index_below id) (packs_built r blobs))

  module _ (P : Change → Type 0) (so : (blobs : List BlobData) (tree : Id) → is_there r (snapshot_file facts tree).name ≡ false → P (change_of (stored_of r blobs) (snapshot_file facts tree))) (c : Change) where
    planned_so : (blobs : List BlobData) (tree : Id) → planned r (stored_of r blobs) (snapshot_file facts tree) ≡ Ok c → P c
    planned_so blobs tree is = cases (is_there r (snapshot_file facts tree).name) refl is where
      made : Change
      made = change_of (stored_of r blobs) (snapshot_file facts tree)

      cases : (b : Bool) → is_there r (snapshot_file facts tree).name ≡ b → cond b (Err SnapshotThere) (Ok made) ≡ Ok c → P c
      cases true there h = (cc h)
      cases false absent h =
          let same : made ≡ c = cc h in
          subst P same (so blobs tree absent)

    stored_so : (made : Result (Id × Stored) PlanError) (tree : Id) (blobs : List BlobData) (due : Result (Id × Stored) PlanError) → due ≡ Ok (tree, stored_of r blobs)
        → (first second : Option PlanError) → made ≡ unless first (unless second due) → planned_of r facts made ≡ Ok c → P c
    stored_so made tree blobs due due_is (Some why) second made_is is =
        let none : planned_of r facts (Err why) ≡ Ok c = ap (planned_of r facts) (sym made_is) ∙ is in
        (cc none)
    stored_so made tree blobs due due_is None (Some why) made_is is =
        let none : planned_of r facts (Err why) ≡ Ok c = ap (planned_of r facts) (sym made_is) ∙ is in
        (cc none)
    stored_so made tree blobs due due_is None None made_is is =
        planned_so blobs tree (ap (planned_of r facts) (sym (made_is ∙ due_is)) ∙ is)

    files_so : (cut : ℕ) (files : List FileData) → planned_of r facts (stored_files_of r cut files) ≡ Ok c → P c
    unfolding stored_files_of
    files_so cut files is =
        let blobs = blobs_of cut (root_folder files) in
        let tree = id_of (root_tree cut (root_folder files)) in
        stored_so _ tree blobs (Ok (tree, stored_of r blobs)) refl (unread_first r) (walk_refusal cut files) refl is

    timed_so : (cut : ℕ) (files : List FileData) (why : Option PlanError) → unless why (planned_of r facts (stored_files_of r cut files)) ≡ Ok c → P c
    timed_so cut files (Some error) is = (cc is)
    timed_so cut files None is = files_so cut files is

    given_so : (cut : ℕ) (o : Result (List FileData) PlanError) → backup_of r facts cut o ≡ Ok c → P c
    given_so cut (Err error) is = (cc is)
    given_so cut (Ok files) is = timed_so cut files (bad_time facts) is

    backup_so : (cut : ℕ) (given : List (List ℕ × List ℕ)) → backup_change r facts cut given ≡ Ok c → P c
    unfolding backup_change
    backup_so cut given is = given_so cut (files_in_order given) is

pub no_file : (r : Repository) (name : FileName) → is_there r name ≡ false → get r.files name ≡ None
no_file r name h = cases (get r.files name) h where
  cases : (o : Option (List ℕ)) → is_some o ≡ false → o ≡ None
  cases None g = refl
  cases (Some bytes) g = (cc g)

pub backup_well_formed : (r : Repository) (facts : FactsData) (cut : ℕ) (given : List (List ℕ × List ℕ)) (c : Change) → backup_change r facts cut given ≡ Ok c → IsWellFormed c
backup_well_formed r facts cut given c is =
    backup_so r facts IsWellFormed
    (λ blobs tree absent. well_formed_so r (stored_of r blobs) (snapshot_file facts tree) (can_be_made r facts blobs) (adds_below r facts tree blobs) (snapshot_own r facts tree) (no_file r (snapshot_file facts tree).name absent))
    c cut given is

pub backup_met : (r : Repository) (facts : FactsData) (cut : ℕ) (given : List (List ℕ × List ℕ)) (c : Change) → backup_change r facts cut given ≡ Ok c → is_met (held r) c ≡ true
backup_met r facts cut given c is =
    backup_so r facts (λ d. is_met (held r) d ≡ true)
    (λ blobs tree absent. what_is_asked_is_met_lem (change_of (stored_of r blobs) (snapshot_file facts tree)) r
    (asked_so r (stored_of r blobs) (snapshot_file facts tree) (can_be_made r facts blobs) (adds_below r facts tree blobs) (snapshot_own r facts tree) (no_file r (snapshot_file facts tree).name absent)))
    c cut given is
