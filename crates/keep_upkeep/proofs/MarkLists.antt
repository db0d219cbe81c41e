-- Lists of ids and names in order.
use Rattle.std.proofs.Common.{◌≡◌, Bool, true, false, ◌||◌, List, [], ◌∷◌, map, filter, None, Ordering, Less, refl, sym, ap, subst, ◌∙◌, cond}
use Rattle.std.specs.Cmp.{IsTotalOrder}
use Rattle.std.specs.FinMap.{FinMap, IsAntisymmetric, from_entries, get-from_entries, keys, same_map}
use Rattle.std.specs.List.{AllByRecursion, list_any}
use Rattle.std.specs.List.Sorted.{IsStrictlySortedBy}
use Rattle.std.specs.Ordering.{eq_by_cmp}
use Rattle.keep_catalog.specs.Ordered.{in_order, keyed}
use Rattle.keep_catalog.proofs.Ordered.{found_key, here, keys_keyed}
use Rattle.keep_names.specs.FileName.{named}
use Rattle.keep_names.specs.Laws.{NamesAreOrdered}
use Rattle.keep_names.specs.Orders.{id_cmp, name_cmp}
use Rattle.keep_names.specs.declared.file_name.FileName.{FileName}
use Rattle.keep_names.specs.declared.file_name.Kind.{Kind}
use Rattle.keep_names.specs.declared.file_name.Kind.TheVariants.{Pack, Index, Snapshot}
use Rattle.keep_names.specs.declared.id.Id.{Id}
use Rattle.keep_repo.proofs.Maps.{keys_made}
use Rattle.keep_repo.specs.Kinds.{ids_among, kind_eq}

module _ {K : Type 0} {R : K → K → Ordering} (total : IsTotalOrder R) (exact : IsAntisymmetric R) where
  -- keys that rise are those of a list with the same members, in order
  pub rising_are : (ks ls : List K) → IsStrictlySortedBy R ks → ((q : K) → list_any (eq_by_cmp R q) ks ≡ list_any (eq_by_cmp R q) ls) → ks ≡ in_order R ls
  rising_are ks ls rise same =
      let Rise : List K → Type 0 = λ xs. IsStrictlySortedBy R xs in
      sym (keys_made total (map keyed ks) (subst Rise (sym (keys_keyed R ks)) rise) ∙ keys_keyed R ks)
      ∙ ap keys (same_map total exact (from_entries (map keyed ks)) (from_entries (map keyed ls))
      (λ q. get-from_entries total (map keyed ks) q ∙ found_key R q ks
      ∙ ap (λ t. cond t here None) (same q)
      ∙ sym (get-from_entries total (map keyed ls) q ∙ found_key R q ls)))

-- ---- names of one kind

above_named : (k : Id) (ids : List Id) → AllByRecursion (λ y. id_cmp k y ≡ Less) ids → AllByRecursion (λ n. name_cmp (named Snapshot k) n ≡ Less) (map (named Snapshot) ids)
above_named k [] h = tt
above_named k (y ∷ ids) h = (h.0, above_named k ids h.1)

-- the names of snapshots rise with their ids
pub named_rise : (ids : List Id) → IsStrictlySortedBy id_cmp ids → IsStrictlySortedBy name_cmp (map (named Snapshot) ids)
unfolding IsStrictlySortedBy
named_rise [] h = tt
named_rise (k ∷ ids) h = (above_named k ids h.0, named_rise ids h.1)

-- and a snapshot is among them by its name where it is by its id
pub named_among : (id : Id) (ids : List Id) → list_any (eq_by_cmp name_cmp (named Snapshot id)) (map (named Snapshot) ids) ≡ list_any (eq_by_cmp id_cmp id) ids
named_among id [] = refl
named_among id (k ∷ ids) = ap (λ b. eq_by_cmp id_cmp id k || b) (named_among id ids)

kind_same : (a b : Kind) → kind_eq a b ≡ true → a ≡ b
kind_same Pack Pack h = refl
kind_same Pack Index h = cc h
kind_same Pack Snapshot h = cc h
kind_same Index Pack h = cc h
kind_same Index Index h = refl
kind_same Index Snapshot h = cc h
kind_same Snapshot Pack h = cc h
kind_same Snapshot Index h = cc h
kind_same Snapshot Snapshot h = refl

module _ (law : NamesAreOrdered) (kind : Kind) where
  abbrev id_of_name : FileName → Id
  id_of_name name = name.id

  abbrev ids_with : Bool → FileName → List FileName → List Id
  ids_with b name names = map id_of_name (cond b (name ∷ filter (λ n. kind_eq n.kind kind) names) (filter (λ n. kind_eq n.kind kind) names))

  above : (name : FileName) (names : List FileName) → name.kind ≡ kind → AllByRecursion (λ n. name_cmp name n ≡ Less) names → AllByRecursion (λ id. id_cmp name.id id ≡ Less) (ids_among kind names)
  above name [] is h = tt
  above name (n ∷ names) is h = cases (above name names is h.1) (kind_eq n.kind kind) refl where
    cases : AllByRecursion (λ id. id_cmp name.id id ≡ Less) (ids_among kind names) → (b : Bool) → kind_eq n.kind kind ≡ b → AllByRecursion (λ id. id_cmp name.id id ≡ Less) (ids_with b n names)
    cases rest true same = (sym ((law name n).1 (is ∙ sym (kind_same n.kind kind same))) ∙ h.0, rest)
    cases rest false other = rest

  -- the ids of the names of a kind rise with the names
  pub ids_rise : (names : List FileName) → IsStrictlySortedBy name_cmp names → IsStrictlySortedBy id_cmp (ids_among kind names)
  unfolding IsStrictlySortedBy
  ids_rise [] h = tt
  ids_rise (n ∷ names) h = cases (ids_rise names h.1) (kind_eq n.kind kind) refl where
    cases : IsStrictlySortedBy id_cmp (ids_among kind names) → (b : Bool) → kind_eq n.kind kind ≡ b → IsStrictlySortedBy id_cmp (ids_with b n names)
    cases rest true same = (above n names (kind_same n.kind kind same) h.0, rest)
    cases rest false other = rest
