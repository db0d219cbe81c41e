-- A change that puts a new index in the place of others can be made.
use Rattle.std.proofs.Common.{◌≡◌, ◌≢◌, ℕ, Bool, true, false, ◌||◌, cond, List, [], ◌∷◌, ◌++◌, map, filter, All, IsSome, Option, None, Some, is_some, refl, sym, ap, subst, ◌∙◌}
use Rattle.std.proofs.lemmas.List.Elements.{All-from_recursion, All-nil, recursion_from_All}
use Rattle.std.specs.FinMap.{get}
use Rattle.std.specs.List.{AllByRecursion, list_any}
use Rattle.std.specs.List.Sorted.{IsStrictlySortedBy}
use Rattle.std.specs.Ordering.{eq_by_cmp}
use Rattle.keep_names.proofs.Orders.{name_total}
use Rattle.keep_names.specs.Laws.{TellsApart}
use Rattle.keep_names.specs.Orders.{id_cmp, name_cmp}
use Rattle.keep_names.specs.Sha256.{sha256}
use Rattle.keep_names.specs.declared.blob.BlobId.{BlobId}
use Rattle.keep_names.specs.declared.file_name.FileName.{FileName}
use Rattle.keep_names.specs.declared.file_name.Kind.{Kind}
use Rattle.keep_names.specs.declared.file_name.Kind.TheVariants.{Index, Pack}
use Rattle.keep_names.specs.declared.id.Id.{Id}
use Rattle.keep_repo.specs.Repository.{Repository, held}
use Rattle.keep_index.specs.Index.{PackData}
use Rattle.keep_catalog.specs.Ordered.{in_order}
use Rattle.keep_catalog.proofs.Ordered.{in_order-same}
use Rattle.keep_change.specs.Change.{is_met, written}
use Rattle.keep_change.specs.Filling.{has_name}
use Rattle.keep_change.specs.Form.{AreNamedByBytes, IsWellFormed}
use Rattle.keep_change.specs.Lists.{AreApart, SortedListsAreWellFormed, WhatIsAskedIsMet, file_names, marked_packs}
use Rattle.keep_change.specs.NamedBytes.{NamedBytes}
use Rattle.keep_change.specs.declared.change.Change.{Change}
use Rattle.keep_change.specs.declared.change.PackMark.{PackMark}
use Rattle.keep_plan.specs.Reuse.{reused_files}
use Rattle.keep_plan.specs.Storing.{CanBeMade, absent_files, is_there, names_there, stored_built}
use Rattle.keep_plan.proofs.Made.{added_so}
use Rattle.keep_upkeep.specs.Reindexing.{index_files, reindexing}
use Rattle.keep_upkeep.proofs.EachSo.{are_apart, each_mapped, each_so, never_at, so_at}
use Rattle.keep_upkeep.proofs.FilesThere.{IsThere}
use Rattle.keep_upkeep.proofs.Rising.{none_rise}

-- what becomes of files that are built, where no blob is used
abbrev pub WhatIsStoredCanBeMade : Type 0
WhatIsStoredCanBeMade = (r : Repository) (used : List BlobId) (built : List NamedBytes) → AreNamedByBytes built → CanBeMade r (stored_built r used built)

-- ---- the new index

abbrev IsNewIndex : NamedBytes → Type 0
IsNewIndex f = (f.name.kind ≡ Index) × (f.name.id.0 ≡ sha256 f.bytes)

each_new : (packs : List PackData) → AllByRecursion IsNewIndex (index_files packs)
unfolding index_files
each_new [] = tt
each_new (pack ∷ packs) = ((refl, refl), tt)

pub new_named : (packs : List PackData) → AreNamedByBytes (index_files packs)
new_named packs = All-from_recursion (λ (f : NamedBytes). f.name.id.0 ≡ sha256 f.bytes) (index_files packs) (each_so IsNewIndex (λ f. f.name.id.0 ≡ sha256 f.bytes) (λ f new. new.1) (index_files packs) (each_new packs))

pub new_indexes : (packs : List PackData) → AllByRecursion (λ (f : NamedBytes). f.name.kind ≡ Index) (index_files packs)
new_indexes packs = each_so IsNewIndex (λ f. f.name.kind ≡ Index) (λ f new. new.0) (index_files packs) (each_new packs)

-- what all built files are, the added ones are
pub adds_so : (r : Repository) (P : NamedBytes → Type 0) (built : List NamedBytes) → AllByRecursion P built → AllByRecursion P (stored_built r [] built).adds
unfolding stored_built
adds_so r P built h = added_so r P built h

any_kept : {X : Type 0} (q p : X → Bool) (xs : List X) → list_any q (filter p xs) ≡ true → list_any q xs ≡ true
any_kept q p [] h = h
any_kept {X} q p (x ∷ xs) h = cases (any_kept q p xs) (p x) (q x) refl h where
  cases : (list_any q (filter p xs) ≡ true → list_any q xs ≡ true) → (b t : Bool) → q x ≡ t → list_any q (cond b (x ∷ filter p xs) (filter p xs)) ≡ true → (q x || list_any q xs) ≡ true
  cases rest b true is found = ap (λ u. u || list_any q xs) is
  cases rest true false is found = ap (λ u. u || list_any q xs) is ∙ rest (sym (ap (λ u. u || list_any q (filter p xs)) is) ∙ found)
  cases rest false false is found = ap (λ u. u || list_any q xs) is ∙ rest found

nothing_reused : (r : Repository) → reused_files r [] ≡ []
unfolding reused_files
nothing_reused r = refl

-- what has to be present is among the built files
pub present_built : (r : Repository) (built : List NamedBytes) (name : FileName) → has_name (stored_built r [] built).present name ≡ true → has_name (file_names built) name ≡ true
unfolding stored_built
present_built r built name h =
    any_kept (eq_by_cmp name_cmp name) (is_there r) (file_names built)
    (ap (λ (names : List FileName). has_name (names ++ names_there r built) name) (sym (nothing_reused r))
    ∙ sym (in_order-same name_total name (reused_files r [] ++ names_there r built)) ∙ h)

-- ---- the change

-- The lists of the change are in order, and what it drops, clears and asks is as it says. No dropped file is a new
-- one, no new one has to be absent, and something is written.
pub record CanBeRemade (r : Repository) (built drops : List NamedBytes) (clears : List PackMark) (absent : List FileName) : Type 0 where
  pub named : AreNamedByBytes built
  pub drops_in_order : IsStrictlySortedBy name_cmp (file_names drops)
  pub clears_in_order : IsStrictlySortedBy id_cmp (marked_packs clears)
  pub absent_in_order : IsStrictlySortedBy name_cmp absent
  pub there : AllByRecursion (IsThere r) drops
  pub marked : AllByRecursion (λ (m : PackMark). get r.marks m.pack ≡ Some m.mark) clears
  pub none : AllByRecursion (λ (name : FileName). get r.files name ≡ None) absent
  pub others : AllByRecursion (λ (f : NamedBytes). has_name (file_names built) f.name ≡ false) drops
  pub new_apart : AreApart name_cmp (file_names (stored_built r [] built).adds) absent
  pub writes : written (reindexing r built drops clears absent) ≢ []

module _ (apart : TellsApart name_cmp) (settling : WhatIsStoredCanBeMade) (r : Repository) (built drops : List NamedBytes) (clears : List PackMark) (absent : List FileName)
    (can : CanBeRemade r built drops clears absent) where
  abbrev made : CanBeMade r (stored_built r [] built)
  made = settling r [] built can.named

  abbrev IsAbsent : FileName → Type 0
  IsAbsent name = get r.files name ≡ None

  abbrev HasFile : FileName → Type 0
  HasFile name = is_some (get r.files name) ≡ true

  clash : (name : FileName) → IsAbsent name → HasFile name → ⊥
  clash name none some =
      let bad : false ≡ true = ap is_some (sym none) ∙ some in
      (cc bad)

  adds_absent : AllByRecursion IsAbsent (file_names (stored_built r [] built).adds)
  adds_absent = each_mapped IsAbsent (λ (f : NamedBytes). f.name) (stored_built r [] built).adds (recursion_from_All (λ (f : NamedBytes). get r.files f.name ≡ None) (stored_built r [] built).adds made.adds)

  drops_there : AllByRecursion HasFile (file_names drops)
  drops_there = each_mapped HasFile (λ (f : NamedBytes). f.name) drops (each_so (IsThere r) (λ f. HasFile f.name) (λ f is. ap is_some is) drops can.there)

  present_there : AllByRecursion HasFile (stored_built r [] built).present
  present_there = recursion_from_All (λ name. IsSome (get r.files name)) (stored_built r [] built).present made.present

  -- no dropped file has to be present
  drops_present : AreApart name_cmp (file_names drops) (stored_built r [] built).present
  drops_present name has = cases (has_name (stored_built r [] built).present name) refl where
    other : has_name (file_names built) name ≡ false
    other = so_at name_cmp apart (λ (n : FileName). has_name (file_names built) n ≡ false) (file_names drops) (each_mapped (λ (n : FileName). has_name (file_names built) n ≡ false) (λ (f : NamedBytes). f.name) drops can.others) name has

    cases : (b : Bool) → has_name (stored_built r [] built).present name ≡ b → b ≡ false
    cases true is =
        let bad : true ≡ false = sym (present_built r built name is) ∙ other in
        bad
    cases false is = refl

  pub remade_well_formed : SortedListsAreWellFormed → IsWellFormed (reindexing r built drops clears absent)
  remade_well_formed law =
      law (reindexing r built drops clears absent)
      (record {
        adds = made.adds_in_order;
        drops = can.drops_in_order;
        sets = none_rise id_cmp;
        clears = can.clears_in_order;
        present = made.present_in_order;
        absent = can.absent_in_order;
        marked = none_rise id_cmp;
        unmarked = none_rise id_cmp;
      })
      (record {
        adds_drops = are_apart name_cmp apart IsAbsent HasFile clash (file_names (stored_built r [] built).adds) (file_names drops) adds_absent drops_there;
        adds_present = are_apart name_cmp apart IsAbsent HasFile clash (file_names (stored_built r [] built).adds) (stored_built r [] built).present adds_absent present_there;
        adds_absent = can.new_apart;
        drops_present = drops_present;
        drops_absent = are_apart name_cmp apart HasFile IsAbsent (λ name some none. clash name none some) (file_names drops) absent drops_there can.none;
        present_absent = are_apart name_cmp apart HasFile IsAbsent (λ name some none. clash name none some) (stored_built r [] built).present absent present_there can.none;
      })
      (record {
        sets_clears = λ pack has. (cc has);
        sets_marked = λ pack has. refl;
        sets_unmarked = λ pack has. refl;
        clears_marked = λ pack has. refl;
        clears_unmarked = λ pack has. refl;
        marked_unmarked = λ pack has. refl;
      })
      made.named
      can.writes

  pub remade_met : WhatIsAskedIsMet → is_met (held r) (reindexing r built drops clears absent) ≡ true
  remade_met law =
      law (reindexing r built drops clears absent) r
      (record {
        adds = made.adds;
        drops = All-from_recursion (IsThere r) drops can.there;
        sets = All-nil _;
        clears = All-from_recursion (λ (m : PackMark). get r.marks m.pack ≡ Some m.mark) clears can.marked;
        present = made.present;
        absent = All-from_recursion (λ (name : FileName). get r.files name ≡ None) absent can.none;
        marked = All-nil _;
        unmarked = All-nil _;
      })
