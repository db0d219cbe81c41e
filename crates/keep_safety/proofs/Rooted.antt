-- An edit of tags that is planned keeps the roots of the snapshots that it puts others in the place of.
use Rattle.std.proofs.Common.{◌≡◌, ℕ, Bool, true, false, ◌||◌, List, [], ◌∷◌, IsSome, Option, None, Some, Ok, option_map, refl, ap, subst, ◌∙◌}
use Rattle.std.specs.FinMap.{get}
use Rattle.std.specs.List.{AllByRecursion, cons_option, filter_map}
use Rattle.std.specs.Ordering.{eq_by_cmp}
use Rattle.std.specs.Result.{result_ok}
use Rattle.serde_json.specs.Written.{compact_text}
use Rattle.keep_names.specs.FileName.{named}
use Rattle.keep_names.specs.Laws.{TellsApart}
use Rattle.keep_names.specs.Orders.{name_cmp}
use Rattle.keep_names.specs.declared.file_name.FileName.{FileName}
use Rattle.keep_names.specs.declared.file_name.Kind.TheVariants.{Snapshot}
use Rattle.keep_names.specs.declared.id.Id.{Id}
use Rattle.keep_repo.specs.Repository.{Repository}
use Rattle.keep_change.specs.Filling.{has_name}
use Rattle.keep_change.specs.Lists.{file_names}
use Rattle.keep_change.specs.NamedBytes.{NamedBytes}
use Rattle.keep_snap.specs.Facts.{FactsData}
use Rattle.keep_snap.specs.Relabel.{retagged}
use Rattle.keep_snap.specs.Shape.{IsSnap}
use Rattle.keep_snap.specs.Snap as reading
use Rattle.keep_snap.specs.Snap.{SnapData}
use Rattle.keep_snap.specs.Written.{snap_data}
use Rattle.keep_catalog.specs.Files.{file_in, snap_in, snap_of, snap_read}
use Rattle.keep_sound.specs.Met.{IsPartOf}
use Rattle.keep_labels.specs.Edits.{Tags}
use Rattle.keep_plan.specs.FilesThere.{file_there}
use Rattle.keep_labels.specs.Tagging.{tagged_file}
use Rattle.keep_labels.proofs.Taken.{names_of}

-- ---- files by name

module _ (apart : TellsApart name_cmp) where
  own_name : (name : FileName) → eq_by_cmp name_cmp name name ≡ true
  own_name name = (apart name name).1 refl

  or_true : (b : Bool) → (b || true) ≡ true
  or_true true = refl
  or_true false = refl

  has_first : (name : FileName) (f : NamedBytes) (fs : List NamedBytes) → name ≡ f.name → has_name (file_names (f ∷ fs)) name ≡ true
  has_first name f fs same = ap (λ b. b || has_name (file_names fs) name) (subst (λ (n : FileName). eq_by_cmp name_cmp name n ≡ true) same (own_name name))

  has_more : (name : FileName) (o : Option NamedBytes) (fs : List NamedBytes) → has_name (file_names fs) name ≡ true → has_name (file_names (cons_option o fs)) name ≡ true
  has_more name None fs h = h
  has_more name (Some f) fs h = ap (λ b. eq_by_cmp name_cmp name f.name || b) h ∙ or_true (eq_by_cmp name_cmp name f.name)

  -- a file of this name, of which P holds
  pub record Found (P : NamedBytes → Type 0) (name : FileName) : Type 0 where
    pub file : NamedBytes
    pub same : name ≡ file.name
    pub so : P file

  pub found_so : (P : NamedBytes → Type 0) (name : FileName) (files : List NamedBytes) → AllByRecursion P files → has_name (file_names files) name ≡ true → Found P name
  found_so P name [] h is = cc is
  found_so P name (f ∷ fs) h is = cases (found_so P name fs h.1) (eq_by_cmp name_cmp name f.name) refl is where
    cases : (has_name (file_names fs) name ≡ true → Found P name) → (b : Bool) → eq_by_cmp name_cmp name f.name ≡ b → (b || has_name (file_names fs) name) ≡ true → Found P name
    cases later true same found = record { file = f; same = (apart name f.name).0 same; so = h.0 }
    cases later false other found = later found

  -- ---- the old snapshots are among the dropped files

  module _ (r : Repository) where
    abbrev pub IsThere : Id → Type 0
    IsThere id = IsSome (get r.files (named Snapshot id))

    abbrev pub IsDropped : List FactsData → FactsData → Type 0
    IsDropped all s = IsThere s.name → has_name (file_names (filter_map (λ id. file_there r (named Snapshot id)) (names_of all))) (named Snapshot s.name) ≡ true

    first_dropped : (s : FactsData) (all : List FactsData) → IsDropped (s ∷ all) s
    first_dropped s all = cases (get r.files (named Snapshot s.name)) where
      cases : (o : Option (List ℕ)) → IsSome o → has_name (file_names (cons_option (option_map (λ bytes. record { name = named Snapshot s.name; bytes = bytes }) o) (filter_map (λ id. file_there r (named Snapshot id)) (names_of all)))) (named Snapshot s.name) ≡ true
      cases None h = (cc h)
      cases (Some bytes) h = has_first (named Snapshot s.name) (record { name = named Snapshot s.name; bytes = bytes }) (filter_map (λ id. file_there r (named Snapshot id)) (names_of all)) refl

    all_more : (s : FactsData) (all ts : List FactsData) → AllByRecursion (IsDropped all) ts → AllByRecursion (IsDropped (s ∷ all)) ts
    all_more s all [] h = tt
    all_more s all (t ∷ ts) h = (
      λ there. has_more (named Snapshot t.name) (file_there r (named Snapshot s.name)) (filter_map (λ id. file_there r (named Snapshot id)) (names_of all)) (h.0 there),
      all_more s all ts h.1,
    )

    pub each_dropped : (all : List FactsData) → AllByRecursion (IsDropped all) all
    each_dropped [] = tt
    each_dropped (s ∷ all) = (first_dropped s all, all_more s all all (each_dropped all))

-- ---- what the new files say

module _ (r : Repository) where
  pub snap_there : (name : Id) (snap : SnapData) → snap_in r name ≡ Some snap → IsSome (get r.files (named Snapshot name))
  unfolding snap_in file_in
  snap_there name snap h = cases (get r.files (named Snapshot name)) h where
    cases : (o : Option (List ℕ)) → snap_read o ≡ Some snap → IsSome o
    cases None g = (cc g)
    cases (Some bytes) g = refl

  pub snap_part : (all : Repository) → IsPartOf r all → (name : Id) (snap : SnapData) → snap_in r name ≡ Some snap → snap_in all name ≡ Some snap
  unfolding snap_in file_in
  snap_part all part name snap h = cases (get r.files (named Snapshot name)) refl h where
    cases : (o : Option (List ℕ)) → get r.files (named Snapshot name) ≡ o → snap_read o ≡ Some snap → snap_read (get all.files (named Snapshot name)) ≡ Some snap
    cases None is g = (cc g)
    cases (Some bytes) is g = ap snap_read (part (named Snapshot name) bytes is) ∙ g

bytes_say : (bytes : List ℕ) (s : SnapData) → reading.snap_of bytes ≡ Ok s → snap_of bytes ≡ Ok s
unfolding snap_of
bytes_say bytes s h = h

pub said_in : (all : Repository) (name : Id) (bytes : List ℕ) (s : SnapData) → get all.files (named Snapshot name) ≡ Some bytes → reading.snap_of bytes ≡ Ok s → snap_in all name ≡ Some s
unfolding snap_in file_in
said_in all name bytes s is h = ap snap_read is ∙ ap result_ok (bytes_say bytes s h)

pub tagged_says : ((s : SnapData) → IsSnap s → reading.snap_of (compact_text (snap_data s)) ≡ Ok s) → (snap : SnapData) (name : Id) (tags : Tags) → IsSnap (retagged snap name tags)
    → reading.snap_of (tagged_file snap name tags).bytes ≡ Ok (retagged snap name tags)
unfolding tagged_file
tagged_says law snap name tags h = law (retagged snap name tags) h

tagged_kind : (snap : SnapData) (name : Id) (tags : Tags) → (tagged_file snap name tags).name.kind ≡ Snapshot
unfolding tagged_file
tagged_kind snap name tags = refl
