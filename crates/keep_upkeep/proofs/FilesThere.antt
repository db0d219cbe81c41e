-- The files of a repository that are there, by their kind and id.
use Rattle.std.proofs.Common.{◌≡◌, ℕ, Bool, true, false, ◌||◌, List, [], ◌∷◌, filter, map, Option, None, Some, option_map, is_some, Less, refl, sym, ap, subst, ◌∙◌}
use Rattle.std.specs.FinMap.{get, keys}
use Rattle.std.specs.List.{AllByRecursion, filter_map}
use Rattle.std.specs.List.Sorted.{IsStrictlySortedBy}
use Rattle.keep_names.specs.FileName.{named}
use Rattle.keep_names.specs.Laws.{KindsAreOrdered, NamesAreOrdered}
use Rattle.keep_names.specs.Orders.{id_cmp, kind_cmp, name_cmp}
use Rattle.keep_names.specs.declared.file_name.FileName.{FileName}
use Rattle.keep_names.specs.declared.file_name.Kind.{Kind}
use Rattle.keep_names.specs.declared.file_name.Kind.TheVariants.{Index, Pack, Snapshot}
use Rattle.keep_names.specs.declared.id.Id.{Id}
use Rattle.keep_repo.specs.Kinds.{kind_eq}
use Rattle.keep_repo.specs.Repository.{Repository}
use Rattle.keep_repo.proofs.Rising.{keys_in_order}
use Rattle.keep_catalog.specs.Files.{ids_in}
use Rattle.keep_change.specs.Lists.{file_names}
use Rattle.keep_change.specs.NamedBytes.{NamedBytes}
use Rattle.keep_plan.proofs.Rising.{rise_made}
use Rattle.keep_plan.specs.FilesThere.{file_there, files_there}
use Rattle.keep_upkeep.proofs.EachSo.{each_made, each_passes, each_so}
use Rattle.keep_upkeep.proofs.Rising.{rise_left}

-- the repository has the file, with its bytes
abbrev pub IsThere : Repository → NamedBytes → Type 0
IsThere r f = get r.files f.name ≡ Some f.bytes

made_as : (kind : Kind) (id : Id) (o : Option (List ℕ)) (f : NamedBytes) → option_map (λ bytes. record { name = named kind id; bytes = bytes }) o ≡ Some f
    → (f.name ≡ named kind id) × (o ≡ Some f.bytes)
made_as kind id None f is = (cc is)
made_as kind id (Some bytes) f is =
    let same : record { name = named kind id; bytes = bytes } ≡ f = cc is in
    (sym (ap (λ (g : NamedBytes). g.name) same), ap (λ (g : NamedBytes). Some g.bytes) same)

file_name : (r : Repository) (kind : Kind) (id : Id) (f : NamedBytes) → file_there r (named kind id) ≡ Some f → f.name ≡ named kind id
file_name r kind id f is = (made_as kind id (get r.files (named kind id)) f is).0

file_is_there : (r : Repository) (kind : Kind) (id : Id) (f : NamedBytes) → file_there r (named kind id) ≡ Some f → IsThere r f
file_is_there r kind id f is =
    let parts = made_as kind id (get r.files (named kind id)) f is in
    ap (get r.files) parts.0 ∙ parts.1

-- what all of the ids are, the files are that are there
pub each_there : (r : Repository) (kind : Kind) (P : Id → Type 0) (Q : NamedBytes → Type 0)
    → ((id : Id) (f : NamedBytes) → P id → f.name ≡ named kind id → IsThere r f → Q f)
    → (ids : List Id) → AllByRecursion P ids → AllByRecursion Q (files_there r kind ids)
unfolding files_there
each_there r kind P Q so ids h =
    each_made P Q (λ id. file_there r (named kind id)) (λ id f p is. so id f p (file_name r kind id f is) (file_is_there r kind id f is)) ids h

-- ---- their order

kind_same : (a b : Kind) → kind_eq a b ≡ true → a ≡ b
kind_same Pack Pack h = refl
kind_same Pack Index h = cc h
kind_same Pack Snapshot h = cc h
kind_same Index Pack h = cc h
kind_same Index Index h = refl
kind_same Index Snapshot h = cc h
kind_same Snapshot Pack h = cc h
kind_same Snapshot Index h = cc h
kind_same Snapshot Snapshot h = refl

module _ (names : NamesAreOrdered) where
  above_named : (kind : Kind) (k : Id) (ids : List Id) → AllByRecursion (λ y. id_cmp k y ≡ Less) ids → AllByRecursion (λ n. name_cmp (named kind k) n ≡ Less) (map (named kind) ids)
  above_named kind k [] h = tt
  above_named kind k (y ∷ ids) h = ((names (named kind k) (named kind y)).1 refl ∙ h.0, above_named kind k ids h.1)

  pub named_rise : (kind : Kind) (ids : List Id) → IsStrictlySortedBy id_cmp ids → IsStrictlySortedBy name_cmp (map (named kind) ids)
  unfolding IsStrictlySortedBy
  named_rise kind [] h = tt
  named_rise kind (k ∷ ids) h = (above_named kind k ids h.0, named_rise kind ids h.1)

  pub files_rise : (r : Repository) (kind : Kind) (ids : List Id) → IsStrictlySortedBy id_cmp ids → IsStrictlySortedBy name_cmp (file_names (files_there r kind ids))
  unfolding files_there
  files_rise r kind ids h = made (named_rise kind ids h) where
    made : IsStrictlySortedBy name_cmp (map (named kind) ids) → IsStrictlySortedBy name_cmp (file_names (filter_map (λ id. file_there r (named kind id)) ids))
    made g = rise_made name_cmp (named kind) (λ (f : NamedBytes). f.name) (λ id. file_there r (named kind id)) (file_name r kind) ids g

  -- packs stand before indexes
  pub pack_before_index : KindsAreOrdered → (a b : FileName) → a.kind ≡ Pack → b.kind ≡ Index → name_cmp a b ≡ Less
  pack_before_index kinds a b pack index =
      (names a b).0 (subst (λ (k : Kind). kind_cmp k b.kind ≡ Less) (sym pack) (subst (λ (k : Kind). kind_cmp Pack k ≡ Less) (sym index) kinds.0))

  -- ---- the ids of a kind

  module _ (kind : Kind) where
    above_ids : (name : FileName) (others : List FileName) → name.kind ≡ kind → AllByRecursion (λ (n : FileName). n.kind ≡ kind) others → AllByRecursion (λ n. name_cmp name n ≡ Less) others
        → AllByRecursion (λ id. id_cmp name.id id ≡ Less) (map (λ (n : FileName). n.id) others)
    above_ids name [] is kinds above = tt
    above_ids name (n ∷ others) is kinds above = (sym ((names name n).1 (is ∙ sym kinds.0)) ∙ above.0, above_ids name others is kinds.1 above.1)

    ids_of_rise : (all : List FileName) → AllByRecursion (λ (n : FileName). n.kind ≡ kind) all → IsStrictlySortedBy name_cmp all → IsStrictlySortedBy id_cmp (map (λ (n : FileName). n.id) all)
    unfolding IsStrictlySortedBy
    ids_of_rise [] kinds h = tt
    ids_of_rise (n ∷ all) kinds h = (above_ids n all kinds.0 kinds.1 h.0, ids_of_rise all kinds.1 h.1)

    -- those of a repository are in order
    pub ids_rise : (r : Repository) → IsStrictlySortedBy id_cmp (ids_in r kind)
    ids_rise r =
        ids_of_rise (filter (λ name. kind_eq name.kind kind) (keys r.files))
        (each_so (λ (n : FileName). kind_eq n.kind kind ≡ true) (λ (n : FileName). n.kind ≡ kind) (λ n is. kind_same n.kind kind is)
        (filter (λ name. kind_eq name.kind kind) (keys r.files)) (each_passes (λ (name : FileName). kind_eq name.kind kind) (keys r.files)))
        (rise_left name_cmp (λ name. kind_eq name.kind kind) (keys r.files) (keys_in_order name_cmp r.files))
