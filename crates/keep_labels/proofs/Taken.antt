-- Taken snapshots, their names and their files stand in the order of names.
use Rattle.std.proofs.Common.{◌≡◌, ℕ, List, [], ◌∷◌, map, All, Option, None, Some, option_map, ok_or, Less, refl, sym, ap, ◌∙◌}
use Rattle.std.specs.FinMap.{entries, get}
use Rattle.std.specs.List.{AllByRecursion, cons_option, filter_map}
use Rattle.std.specs.List.Sorted.{IsStrictlySortedBy}
use Rattle.std.specs.Result.{result_ok}
use Rattle.std.proofs.lemmas.List.Elements.{All-from_recursion}
use Rattle.keep_names.specs.FileName.{named}
use Rattle.keep_names.specs.Orders.{id_cmp, name_cmp}
use Rattle.keep_names.specs.declared.file_name.FileName.{FileName}
use Rattle.keep_names.specs.declared.file_name.Kind.TheVariants.{Snapshot}
use Rattle.keep_names.specs.declared.id.Id.{Id}
use Rattle.keep_repo.specs.Repository.{Repository}
use Rattle.keep_change.specs.Lists.{file_names}
use Rattle.keep_change.specs.NamedBytes.{NamedBytes}
use Rattle.keep_snap.specs.Facts.{FactsData, facts_at}
use Rattle.keep_snap.specs.Snap.{SnapData}
use Rattle.keep_snap.specs.Time.{time_in}
use Rattle.keep_snap.specs.declared.snap.SnapError.TheVariants.{BadTime}
use Rattle.keep_snap.specs.declared.time.Time.{Time}
use Rattle.keep_repo.proofs.Rising.{keys_in_order}
use Rattle.keep_catalog.specs.Files.{snaps_in}
use Rattle.keep_plan.specs.Picks.{picks}
use Rattle.keep_plan.specs.Taking.{named_facts, taken_in}
use Rattle.keep_plan.specs.declared.pick.Pick.{Pick}
use Rattle.keep_plan.specs.FilesThere.{file_there, files_there}
use Rattle.keep_plan.proofs.Rising.{rise_kept, rise_made}

-- ---- taken snapshots

same_name : (e : Id × SnapData) (s : FactsData) → named_facts e ≡ Some s → s.name ≡ e.0
same_name e s = cases (time_in e.1.time) where
  cases : (o : Option Time) → result_ok (ok_or (option_map (facts_at e.0 e.1) o) BadTime) ≡ Some s → s.name ≡ e.0
  cases None is = (cc is)
  cases (Some time) is =
      let same : facts_at e.0 e.1 time ≡ s = cc is in
      sym (ap (λ (t : FactsData). t.name) same)

abbrev pub names_of : List FactsData → List Id
names_of all = map (λ s. s.name) all

pub taken_rise : (rule : Pick) (r : Repository) → IsStrictlySortedBy id_cmp (names_of (taken_in rule r))
unfolding taken_in
taken_rise rule r =
    rise_kept id_cmp (λ (s : FactsData). s.name) (picks rule) (filter_map named_facts (entries (snaps_in r)))
    (rise_made id_cmp (λ (e : Id × SnapData). e.0) (λ (s : FactsData). s.name) named_facts same_name (entries (snaps_in r)) (keys_in_order id_cmp (snaps_in r)))

-- ---- their files

above_named : (k : Id) (ids : List Id) → AllByRecursion (λ y. id_cmp k y ≡ Less) ids → AllByRecursion (λ n. name_cmp (named Snapshot k) n ≡ Less) (map (named Snapshot) ids)
above_named k [] h = tt
above_named k (y ∷ ids) h = (h.0, above_named k ids h.1)

named_rise : (ids : List Id) → IsStrictlySortedBy id_cmp ids → IsStrictlySortedBy name_cmp (map (named Snapshot) ids)
unfolding IsStrictlySortedBy
named_rise [] h = tt
named_rise (k ∷ ids) h = (above_named k ids h.0, named_rise ids h.1)

made_as : (r : Repository) (id : Id) (o : Option (List ℕ)) (f : NamedBytes) → option_map (λ bytes. record { name = named Snapshot id; bytes = bytes }) o ≡ Some f
    → (f.name ≡ named Snapshot id) × (o ≡ Some f.bytes)
made_as r id None f is = (cc is)
made_as r id (Some bytes) f is =
    let same : record { name = named Snapshot id; bytes = bytes } ≡ f = cc is in
    (sym (ap (λ (g : NamedBytes). g.name) same), ap (λ (g : NamedBytes). Some g.bytes) same)

file_name : (r : Repository) (id : Id) (f : NamedBytes) → file_there r (named Snapshot id) ≡ Some f → f.name ≡ named Snapshot id
file_name r id f is = (made_as r id (get r.files (named Snapshot id)) f is).0

pub files_rise : (r : Repository) (ids : List Id) → IsStrictlySortedBy id_cmp ids → IsStrictlySortedBy name_cmp (file_names (files_there r Snapshot ids))
unfolding files_there
files_rise r ids h = made (named_rise ids h) where
  made : IsStrictlySortedBy name_cmp (map (named Snapshot) ids) → IsStrictlySortedBy name_cmp (file_names (filter_map (λ id. file_there r (named Snapshot id)) ids))
  made g = rise_made name_cmp (named Snapshot) (λ (f : NamedBytes). f.name) (λ id. file_there r (named Snapshot id)) (file_name r) ids g

-- what each file of a snapshot is, each of these is
each_made : {P : NamedBytes → Type 0} (r : Repository) → ((id : Id) (f : NamedBytes) → file_there r (named Snapshot id) ≡ Some f → P f) → (ids : List Id) → AllByRecursion P (filter_map (λ id. file_there r (named Snapshot id)) ids)
each_made r so [] = tt
each_made {P} r so (id ∷ ids) = cases (each_made r so ids) (file_there r (named Snapshot id)) refl where
  cases : AllByRecursion P (filter_map (λ id. file_there r (named Snapshot id)) ids) → (o : Option NamedBytes) → file_there r (named Snapshot id) ≡ o → AllByRecursion P (cons_option o (filter_map (λ id. file_there r (named Snapshot id)) ids))
  cases rest None is = rest
  cases rest (Some f) is = (so id f is, rest)

pub files_held : (r : Repository) (ids : List Id) → All (λ (f : NamedBytes). get r.files f.name ≡ Some f.bytes) (files_there r Snapshot ids)
unfolding files_there
files_held r ids = All-from_recursion (λ (f : NamedBytes). get r.files f.name ≡ Some f.bytes) (filter_map (λ id. file_there r (named Snapshot id)) ids) (each_made r there ids) where
  there : (id : Id) (f : NamedBytes) → file_there r (named Snapshot id) ≡ Some f → get r.files f.name ≡ Some f.bytes
  there id f is =
      let parts = made_as r id (get r.files (named Snapshot id)) f is in
      ap (get r.files) parts.0 ∙ parts.1

pub files_are_snapshots : (r : Repository) (ids : List Id) → All (λ (f : NamedBytes). f.name.kind ≡ Snapshot) (files_there r Snapshot ids)
unfolding files_there
files_are_snapshots r ids = All-from_recursion (λ (f : NamedBytes). f.name.kind ≡ Snapshot) (filter_map (λ id. file_there r (named Snapshot id)) ids)
    (each_made r (λ id f is. ap (λ (n : FileName). n.kind) (file_name r id f is)) ids)
