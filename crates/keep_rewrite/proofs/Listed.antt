-- Lists of names in order, and apart from others.
use Rattle.std.proofs.Common.{◌≡◌, Bool, true, false, ◌||◌, List, [], ◌∷◌, ◌++◌, map, Option, None, Some, IsSome, Ordering, Less, Equal, refl, sym, ap, subst, ◌∙◌}
use Rattle.std.proofs.lemmas.Map.Views.{tells_apart}
use Rattle.std.specs.Cmp.{IsTotalOrder, tied_itself}
use Rattle.std.specs.FinMap.{IsAntisymmetric, entries, from_entries}
use Rattle.std.specs.List.{AllByRecursion, flat_map, list_any}
use Rattle.std.specs.List.Sorted.{IsStrictlySortedBy}
use Rattle.std.specs.Ordering.{eq_by_cmp}
use Rattle.keep_names.proofs.Orders.{name_exact, name_total}
use Rattle.keep_names.specs.FileName.{named}
use Rattle.keep_names.specs.Orders.{name_cmp}
use Rattle.keep_names.specs.declared.blob.BlobId.{BlobId}
use Rattle.keep_names.specs.declared.file_name.FileName.{FileName}
use Rattle.keep_names.specs.declared.file_name.Kind.TheVariants.{Snapshot}
use Rattle.keep_names.specs.declared.id.Id.{Id}
use Rattle.keep_repo.specs.Repository.{Repository}
use Rattle.keep_change.specs.Lists.{AreApart, file_names}
use Rattle.keep_change.specs.NamedBytes.{NamedBytes}
use Rattle.keep_catalog.specs.Ordered.{in_order, keyed}
use Rattle.keep_plan.proofs.Ordered.{All-entries, All-of_map}
use Rattle.keep_plan.specs.Files.{files_used}
use Rattle.keep_plan.specs.Reuse.{reused_files, uses_of}
use Rattle.keep_plan.specs.Storing.{is_there, names_there, stored_built}
use Rattle.keep_build.proofs.Built.{adds_so, built_so}
use Rattle.keep_build.specs.Blobs.{BlobData, names_once}
use Rattle.keep_build.specs.Stored.{built, index_file, pack_file, packs_built, stored_of}
use Rattle.keep_rewrite.proofs.Kept.{passed}

-- ---- in order

pub all_append : {X : Type 0} (P : X → Type 0) (xs ys : List X) → AllByRecursion P xs → AllByRecursion P ys → AllByRecursion P (xs ++ ys)
all_append P [] ys h g = g
all_append P (x ∷ xs) ys h g = (h.0, all_append P xs ys h.1 g)

pub all_by : {X : Type 0} (P Q : X → Type 0) → ((x : X) → P x → Q x) → (xs : List X) → AllByRecursion P xs → AllByRecursion Q xs
all_by P Q f [] h = tt
all_by P Q f (x ∷ xs) h = (f x h.0, all_by P Q f xs h.1)

pub none_sorted : {K : Type 0} (R : K → K → Ordering) → IsStrictlySortedBy R []
unfolding IsStrictlySortedBy
none_sorted R = tt

-- one list behind the other, where each of the first stands before each of the second
pub sorted_both : {K : Type 0} (R : K → K → Ordering) (ks ls : List K) → IsStrictlySortedBy R ks → IsStrictlySortedBy R ls → AllByRecursion (λ k. AllByRecursion (λ l. R k l ≡ Less) ls) ks → IsStrictlySortedBy R (ks ++ ls)
unfolding IsStrictlySortedBy
sorted_both R [] ls h g before = g
sorted_both R (k ∷ ks) ls h g before = (all_append (λ l. R k l ≡ Less) ks ls h.0 before.0, sorted_both R ks ls h.1 g before.1)

pub names_both : (xs ys : List NamedBytes) → file_names (xs ++ ys) ≡ file_names xs ++ file_names ys
names_both [] ys = refl
names_both (f ∷ fs) ys = ap (λ (names : List FileName). f.name ∷ names) (names_both fs ys)

-- ---- apart

module _ {K : Type 0} {R : K → K → Ordering} (exact : IsAntisymmetric R) where
  found_so : (P : K → Type 0) (k : K) (ks : List K) → AllByRecursion P ks → list_any (eq_by_cmp R k) ks ≡ true → P k
  found_so P k [] h is = cc is
  found_so P k (x ∷ xs) h is = cases (found_so P k xs h.1) (eq_by_cmp R k x) refl is where
    cases : (list_any (eq_by_cmp R k) xs ≡ true → P k) → (b : Bool) → eq_by_cmp R k x ≡ b → (b || list_any (eq_by_cmp R k) xs) ≡ true → P k
    cases later true same found = subst P (sym (tells_apart exact k x same)) h.0
    cases later false other found = later found

  -- two lists of which different things hold
  pub apart_so : (P Q : K → Type 0) (ks ls : List K) → ((k : K) → P k → Q k → ⊥) → AllByRecursion P ks → AllByRecursion Q ls → AreApart R ks ls
  apart_so P Q ks ls never p q k is = cases (list_any (eq_by_cmp R k) ls) refl where
    cases : (b : Bool) → list_any (eq_by_cmp R k) ls ≡ b → b ≡ false
    cases true found = absurd (never k (found_so P k ks p is) (found_so Q k ls q found))
    cases false none = refl

pub absent_present : {X : Type 0} (o : Option X) → o ≡ None → IsSome o → ⊥
absent_present None h g = cc g
absent_present (Some x) h g = cc h

-- ---- packs and indexes stand before snapshots

abbrev pub IsBefore : FileName → Type 0
IsBefore name = (id : Id) → name_cmp name (named Snapshot id) ≡ Less

abbrev pub IsOfSnapshot : FileName → Type 0
IsOfSnapshot name = (id : Id) × (name ≡ named Snapshot id)

pub before_snapshots : (names : List FileName) → AllByRecursion IsOfSnapshot names → (name : FileName) → IsBefore name → AllByRecursion (λ n. name_cmp name n ≡ Less) names
before_snapshots [] h name before = tt
before_snapshots (n ∷ names) h name before = (ap (name_cmp name) h.0.1 ∙ before h.0.0, before_snapshots names h.1 name before)

pub never_both : (name : FileName) → IsBefore name → IsOfSnapshot name → ⊥
never_both name before is = bad (sym (tied_itself name_total name) ∙ ap (name_cmp name) is.1 ∙ before is.0) where
  bad : Equal ≡ Less → ⊥
  bad h = (cc h)

pack_before : (blobs : List BlobData) → IsBefore (pack_file blobs).name
unfolding pack_file
pack_before blobs id = refl

index_before : (packs : List (List BlobData)) → IsBefore (index_file packs).name
unfolding index_file
index_before packs id = refl

abbrev FileIsBefore : NamedBytes → Type 0
FileIsBefore f = IsBefore f.name

built_before : (r : Repository) (blobs : List BlobData) → AllByRecursion FileIsBefore (built r blobs)
built_before r blobs = built_so FileIsBefore pack_before index_before (packs_built r blobs)

pub adds_before : (r : Repository) (blobs : List BlobData) → AllByRecursion FileIsBefore (stored_of r blobs).adds
adds_before r blobs = adds_so r FileIsBefore blobs (built_before r blobs)

-- keys in order, each once, are all so where the keys are
module _ {K : Type 0} {R : K → K → Ordering} (total : IsTotalOrder R) (exact : IsAntisymmetric R) (P : K → Type 0) where
  each_keyed : (ks : List K) → AllByRecursion P ks → AllByRecursion (λ (e : K × Unit {0}). P e.0) (map keyed ks)
  each_keyed [] h = tt
  each_keyed (k ∷ ks) h = (h.0, each_keyed ks h.1)

  all_in_order : (ks : List K) → AllByRecursion P ks → AllByRecursion P (in_order R ks)
  all_in_order ks h =
      All-of_map P (λ (e : K × Unit {0}). e.0) (entries (from_entries {R = R} (map keyed ks)))
      (All-entries total exact (λ (e : K × Unit {0}). P e.0) (map keyed ks) (each_keyed ks h))

used_before : (pairs : List (Id × Id)) → AllByRecursion IsBefore (flat_map files_used pairs)
used_before [] = tt
used_before (pair ∷ pairs) = (λ id. refl, (λ id. refl, used_before pairs))

reused_before : (r : Repository) (blobs : List BlobId) → AllByRecursion IsBefore (reused_files r blobs)
unfolding reused_files
reused_before r blobs = used_before (uses_of r blobs)

there_before : (r : Repository) (files : List NamedBytes) → AllByRecursion FileIsBefore files → AllByRecursion IsBefore (names_there r files)
there_before r files h = passed (is_there r) IsBefore (file_names files) (All-of_map IsBefore (λ (f : NamedBytes). f.name) files h)

pub present_before : (r : Repository) (blobs : List BlobData) → AllByRecursion IsBefore (stored_of r blobs).present
unfolding stored_of stored_built
present_before r blobs =
    all_in_order name_total name_exact IsBefore (reused_files r (names_once blobs) ++ names_there r (built r blobs))
    (all_append IsBefore (reused_files r (names_once blobs)) (names_there r (built r blobs)) (reused_before r (names_once blobs)) (there_before r (built r blobs) (built_before r blobs)))
