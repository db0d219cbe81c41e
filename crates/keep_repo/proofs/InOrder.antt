-- Files that are kept by id, those of each kind apart: their names and their ids in order, and their number.
use Rattle.std.proofs.Common.{◌≡◌, ℕ, ◌+◌, Bool, true, false, ◌||◌, cond, List, [], ◌∷◌, ◌++◌, length, map, filter, is_some, Less, refl, sym, ap, ◌∙◌, arith}
use Rattle.std.proofs.lemmas.List.{length-append, length-map}
use Rattle.std.proofs.lemmas.List.Folds.{list_any-append}
use Rattle.std.specs.BTreeMap.{is_at}
use Rattle.std.specs.FinMap.{contains_key, contains_key-keys, entries, keys, len, len-entries}
use Rattle.std.specs.List.{AllByRecursion, list_any}
use Rattle.std.specs.List.Sorted.{IsStrictlySortedBy}
use Rattle.std.specs.Ordering.{is_eq}
use Rattle.keep_names.proofs.Orders.{name_exact, name_total}
use Rattle.keep_names.specs.FileName.{named}
use Rattle.keep_names.specs.Orders.{id_cmp, name_cmp}
use Rattle.keep_names.specs.declared.file_name.FileName.{FileName}
use Rattle.keep_names.specs.declared.file_name.Kind.{Kind}
use Rattle.keep_names.specs.declared.file_name.Kind.TheVariants.{Pack, Index, Snapshot}
use Rattle.keep_names.specs.declared.id.Id.{Id}
use Rattle.keep_repo.proofs.ByName.{Files, Held, apart, by_ids, get_by_name, those_of}
use Rattle.keep_repo.proofs.Rising.{all_of_both, both_rise, keys_in_order, rising_keys}
use Rattle.keep_repo.specs.Files.{by_id, by_name}
use Rattle.keep_repo.specs.Kinds.{ids_among, kind_eq}

-- names of a kind, of ids that rise
named_rise : (k : Kind) (ids : List Id) → IsStrictlySortedBy id_cmp ids → IsStrictlySortedBy name_cmp (map (named k) ids)
unfolding IsStrictlySortedBy
named_rise k [] rises = tt
named_rise k (a ∷ more) rises = (above more rises.0, named_rise k more rises.1) where
  above : (bs : List Id) → AllByRecursion (λ b. id_cmp a b ≡ Less) bs → AllByRecursion (λ n. name_cmp (named k a) n ≡ Less) (map (named k) bs)
  above [] less = tt
  above (b ∷ bs) less = (by_ids k a b ∙ less.0, above bs less.1)

-- names of a lesser kind come first
before_all : (k j : Kind) (a : Id) → ((b : Id) → name_cmp (named k a) (named j b) ≡ Less) → (bs : List Id) → AllByRecursion (λ n. name_cmp (named k a) n ≡ Less) (map (named j) bs)
before_all k j a less [] = tt
before_all k j a less (b ∷ bs) = (less b, before_all k j a less bs)

any_apart : (k j : Kind) → kind_eq k j ≡ false → (a : Id) (bs : List Id) → list_any (is_at (name_cmp (named k a))) (map (named j) bs) ≡ false
any_apart k j other a [] = refl
any_apart k j other a (b ∷ bs) = ap (λ found. found || list_any (is_at (name_cmp (named k a))) (map (named j) bs)) (apart k j a b other) ∙ any_apart k j other a bs

any_there : (k : Kind) (a : Id) (bs : List Id) → list_any (is_at (name_cmp (named k a))) (map (named k) bs) ≡ list_any (is_at (id_cmp a)) bs
any_there k a [] = refl
any_there k a (b ∷ bs) =
    ap (λ o. is_eq o || list_any (is_at (name_cmp (named k a))) (map (named k) bs)) (by_ids k a b)
    ∙ ap (λ found. is_at (id_cmp a) b || found) (any_there k a bs)

or_false : (b : Bool) → (b || false) ≡ b
or_false true = refl
or_false false = refl

module _ (packs indexes snapshots : Held) where
  abbrev pub files : Files
  files = by_name packs indexes snapshots

  abbrev pub ids_of : Kind → List Id
  ids_of k = keys (by_id (those_of packs indexes snapshots k))

  abbrev pub named_of : Kind → List FileName
  named_of k = map (named k) (ids_of k)

  abbrev pub in_order : List FileName
  in_order = named_of Pack ++ (named_of Index ++ named_of Snapshot)

  rise_of : (k : Kind) → IsStrictlySortedBy name_cmp (named_of k)
  rise_of k = named_rise k (ids_of k) (keys_in_order id_cmp (by_id (those_of packs indexes snapshots k)))

  all_before : (k j : Kind) → ((a b : Id) → name_cmp (named k a) (named j b) ≡ Less) → (more bs : List Id) → AllByRecursion (λ x. AllByRecursion (λ y. name_cmp x y ≡ Less) (map (named j) bs)) (map (named k) more)
  all_before k j less [] bs = tt
  all_before k j less (a ∷ more) bs = (before_all k j a (less a) bs, all_before k j less more bs)

  both_before : (more bs cs : List FileName) → AllByRecursion (λ x. AllByRecursion (λ y. name_cmp x y ≡ Less) bs) more → AllByRecursion (λ x. AllByRecursion (λ y. name_cmp x y ≡ Less) cs) more → AllByRecursion (λ x. AllByRecursion (λ y. name_cmp x y ≡ Less) (bs ++ cs)) more
  both_before [] bs cs first others = tt
  both_before (a ∷ more) bs cs first others = (all_of_both (λ y. name_cmp a y ≡ Less) bs cs first.0 others.0, both_before more bs cs first.1 others.1)

  rises : IsStrictlySortedBy name_cmp in_order
  rises =
      both_rise name_cmp (named_of Pack) (named_of Index ++ named_of Snapshot) (rise_of Pack)
      (both_rise name_cmp (named_of Index) (named_of Snapshot) (rise_of Index) (rise_of Snapshot)
      (all_before Index Snapshot (λ a b. refl) (ids_of Index) (ids_of Snapshot)))
      (both_before (named_of Pack) (named_of Index) (named_of Snapshot)
      (all_before Pack Index (λ a b. refl) (ids_of Pack) (ids_of Index))
      (all_before Pack Snapshot (λ a b. refl) (ids_of Pack) (ids_of Snapshot)))

  there : (k : Kind) (a : Id) → list_any (is_at (name_cmp (named k a))) (named_of k) ≡ contains_key files (named k a)
  there k a =
      any_there k a (ids_of k) ∙ sym (contains_key-keys (by_id (those_of packs indexes snapshots k)) a)
      ∙ ap is_some (sym (get_by_name packs indexes snapshots k a))

  joined : (test : FileName → Bool) → list_any test in_order ≡ (list_any test (named_of Pack) || (list_any test (named_of Index) || list_any test (named_of Snapshot)))
  joined test =
      list_any-append test (named_of Pack) (named_of Index ++ named_of Snapshot)
      ∙ ap (λ found. list_any test (named_of Pack) || found) (list_any-append test (named_of Index) (named_of Snapshot))

  alike : (k : Kind) (a : Id) → list_any (is_at (name_cmp (named k a))) in_order ≡ contains_key files (named k a)
  alike Pack a =
      let test = is_at (name_cmp (named Pack a)) in
      joined test
      ∙ ap (λ found. list_any test (named_of Pack) || (found || list_any test (named_of Snapshot))) (any_apart Pack Index refl a (ids_of Index))
      ∙ ap (λ found. list_any test (named_of Pack) || found) (any_apart Pack Snapshot refl a (ids_of Snapshot))
      ∙ or_false (list_any test (named_of Pack))
      ∙ there Pack a
  alike Index a =
      let test = is_at (name_cmp (named Index a)) in
      joined test
      ∙ ap (λ found. found || (list_any test (named_of Index) || list_any test (named_of Snapshot))) (any_apart Index Pack refl a (ids_of Pack))
      ∙ ap (λ found. list_any test (named_of Index) || found) (any_apart Index Snapshot refl a (ids_of Snapshot))
      ∙ or_false (list_any test (named_of Index))
      ∙ there Index a
  alike Snapshot a =
      let test = is_at (name_cmp (named Snapshot a)) in
      joined test
      ∙ ap (λ found. found || (list_any test (named_of Index) || list_any test (named_of Snapshot))) (any_apart Snapshot Pack refl a (ids_of Pack))
      ∙ ap (λ found. found || list_any test (named_of Snapshot)) (any_apart Snapshot Index refl a (ids_of Index))
      ∙ there Snapshot a

  -- the names are those of the packs in order, then those of the indexes and then those of the snapshots
  pub names_of : in_order ≡ keys files
  names_of = rising_keys name_total name_exact files in_order rises (λ q. alike q.kind q.id)

  -- ---- the ids of a kind

  kept : (k : Kind) (ids : List Id) → ids_among k (map (named k) ids) ≡ ids
  kept k [] = refl
  kept Pack (a ∷ more) = ap (λ (ids : List Id). a ∷ ids) (kept Pack more)
  kept Index (a ∷ more) = ap (λ (ids : List Id). a ∷ ids) (kept Index more)
  kept Snapshot (a ∷ more) = ap (λ (ids : List Id). a ∷ ids) (kept Snapshot more)

  dropped : (k j : Kind) → kind_eq j k ≡ false → (ids : List Id) → ids_among k (map (named j) ids) ≡ []
  dropped k j other [] = refl
  dropped k j other (a ∷ more) = ap (λ b. map (λ (name : FileName). name.id) (cond b (named j a ∷ rest) rest)) other ∙ dropped k j other more
    where
      rest : List FileName
      rest = filter (λ (name : FileName). kind_eq name.kind k) (map (named j) more)

  among_both : (k : Kind) (xs ys : List FileName) → ids_among k (xs ++ ys) ≡ ids_among k xs ++ ids_among k ys
  among_both k [] ys = refl
  among_both k (x ∷ xs) ys = cases (kind_eq x.kind k) (among_both k xs ys) where
    is_kind : FileName → Bool
    is_kind name = kind_eq name.kind k

    id_of : FileName → Id
    id_of name = name.id

    cases : (b : Bool) → map id_of (filter is_kind (xs ++ ys)) ≡ map id_of (filter is_kind xs) ++ map id_of (filter is_kind ys)
        → map id_of (cond b (x ∷ filter is_kind (xs ++ ys)) (filter is_kind (xs ++ ys))) ≡ map id_of (cond b (x ∷ filter is_kind xs) (filter is_kind xs)) ++ map id_of (filter is_kind ys)
    cases true later = ap (λ (ids : List Id). x.id ∷ ids) later
    cases false later = later

  among_all : (k : Kind) → ids_among k in_order ≡ ids_among k (named_of Pack) ++ (ids_among k (named_of Index) ++ ids_among k (named_of Snapshot))
  among_all k =
      among_both k (named_of Pack) (named_of Index ++ named_of Snapshot)
      ∙ ap (λ (ids : List Id). ids_among k (named_of Pack) ++ ids) (among_both k (named_of Index) (named_of Snapshot))

  nil_right : (xs : List Id) → xs ++ [] ≡ xs
  nil_right [] = refl
  nil_right (x ∷ xs) = ap (λ (ids : List Id). x ∷ ids) (nil_right xs)

  among : (k : Kind) → ids_among k in_order ≡ ids_of k
  among Pack =
      among_all Pack
      ∙ ap (λ (ids : List Id). ids_among Pack (named_of Pack) ++ (ids ++ ids_among Pack (named_of Snapshot))) (dropped Pack Index refl (ids_of Index))
      ∙ ap (λ (ids : List Id). ids_among Pack (named_of Pack) ++ ids) (dropped Pack Snapshot refl (ids_of Snapshot))
      ∙ nil_right (ids_among Pack (named_of Pack)) ∙ kept Pack (ids_of Pack)
  among Index =
      among_all Index
      ∙ ap (λ (ids : List Id). ids ++ (ids_among Index (named_of Index) ++ ids_among Index (named_of Snapshot))) (dropped Index Pack refl (ids_of Pack))
      ∙ ap (λ (ids : List Id). ids_among Index (named_of Index) ++ ids) (dropped Index Snapshot refl (ids_of Snapshot))
      ∙ nil_right (ids_among Index (named_of Index)) ∙ kept Index (ids_of Index)
  among Snapshot =
      among_all Snapshot
      ∙ ap (λ (ids : List Id). ids ++ (ids_among Snapshot (named_of Index) ++ ids_among Snapshot (named_of Snapshot))) (dropped Snapshot Pack refl (ids_of Pack))
      ∙ ap (λ (ids : List Id). ids ++ ids_among Snapshot (named_of Snapshot)) (dropped Snapshot Index refl (ids_of Index))
      ∙ kept Snapshot (ids_of Snapshot)

  pub ids_of_kind : (k : Kind) → ids_of k ≡ ids_among k (keys files)
  ids_of_kind k = sym (among k) ∙ ap (ids_among k) names_of

  -- ---- their number

  counted : (k : Kind) → length (named_of k) ≡ len (by_id (those_of packs indexes snapshots k))
  counted k =
      length-map (ids_of k) (named k)
      ∙ length-map (entries (by_id (those_of packs indexes snapshots k))) (λ e. e.0)
      ∙ sym (len-entries (by_id (those_of packs indexes snapshots k)))

  -- the files are as many as those of the three kinds
  pub sum_of : (a b c : ℕ) → a ≡ len (by_id packs) → b ≡ len (by_id indexes) → c ≡ len (by_id snapshots) → a + b + c ≡ len files
  sum_of a b c a_is b_is c_is =
      let all = ap length names_of ∙ length-map (entries files) (λ e. e.0) ∙ sym (len-entries files) in
      let both = length-append (named_of Pack) (named_of Index ++ named_of Snapshot) in
      let last = length-append (named_of Index) (named_of Snapshot) in
      let first_is = counted Pack in
      let second_is = counted Index in
      let third_is = counted Snapshot in
      omega (arith, all, both, last, first_is, second_is, third_is, a_is, b_is, c_is)
