-- What is kept of the files that can't be read: the first of them by name, and all of them in the order of their names.
use Rattle.std.proofs.Common.{◌≡◌, ℕ, Bool, true, false, ◌||◌, List, [], ◌∷◌, map, Option, None, Some, option_map, is_some, slice_get, IsPermutation, refl, sym, ap, ◌∙◌, Less}
use Rattle.std.proofs.lemmas.List.Sorted.{list_any-IsPermutation}
use Rattle.std.proofs.lemmas.Map.Made.{is_some-lookup}
use Rattle.std.proofs.lemmas.Map.Views.{Contains-from_any, list_any-from_Contains, tells_apart}
use Rattle.std.specs.BTreeMap.{is_at}
use Rattle.std.specs.Cmp.{eq_by_cmp_equiv}
use Rattle.std.specs.FinMap as finite
use Rattle.std.specs.List.{All, Contains, IsDistinct, cons_option, filter_map, list_any}
use Rattle.std.specs.List.Sorted.{IsSorted, IsStrictlySortedBy}
use Rattle.std.specs.Map.{keys_of, lookup}
use Rattle.std.specs.Option.{option_and_then}
use Rattle.std.specs.Ordering.{is_lt}
use Rattle.keep_names.proofs.Orders.{name_exact, name_total}
use Rattle.keep_names.specs.Orders.{name_cmp}
use Rattle.keep_names.specs.declared.file_name.FileName.{FileName}
use Rattle.keep_repo.proofs.Hashed.{sorted_rise}
use Rattle.keep_repo.proofs.Rising.{keys_in_order}
use Rattle.keep_repo.specs.Repository.{Repository}
use Rattle.keep_catalog.specs.Files.{unread, unread_at, unread_in, why_of, why_unread}
use Rattle.keep_catalog.specs.Orders.{name_eq, same_name}
use Rattle.keep_catalog.specs.declared.unread.FileError.{FileError}
use Rattle.keep_catalog.specs.declared.unread.Unread.{Unread}
use Rattle.keep_catalog.proofs.EachTable.{same_as_order}
use Rattle.keep_catalog.proofs.Gathered.{HasAll, gathered, gathered_alike}
use Rattle.keep_catalog.proofs.Ordered.{holds_of_one}

some_file : (q : FileName) (o : Option (List ℕ)) → is_some (option_and_then (why_of q.kind) o) ≡ true → is_some o ≡ true
some_file q None h = cc h
some_file q (Some bytes) h = refl

module _ (r : Repository) where
  -- the names have each file that can't be read
  abbrev HasAllUnread : List FileName → Type 0
  HasAllUnread = HasAll name_cmp name_total name_exact (why_unread r)

  unread_there : HasAllUnread (finite.keys r.files)
  unfolding why_unread
  unread_there q h = sym (finite.contains_key-keys r.files q) ∙ some_file q (finite.get r.files q) h

  -- ---- in the order of the names

  abbrev unread_of : FileName × FileError → Unread
  unread_of e = unread e.0.kind e.0.id e.1

  as_unread : (names : List FileName) → map unread_of (gathered name_cmp name_total name_exact (why_unread r) names) ≡ filter_map (unread_at r) names
  as_unread [] = refl
  as_unread (name ∷ names) = cases (why_unread r name) (as_unread names) where
    rest : List (FileName × FileError)
    rest = gathered name_cmp name_total name_exact (why_unread r) names

    cases : (o : Option FileError) → map unread_of rest ≡ filter_map (unread_at r) names → map unread_of (cons_option (option_map (λ why. (name, why)) o) rest) ≡ cons_option (option_map (unread name.kind name.id) o) (filter_map (unread_at r) names)
    cases None later = later
    cases (Some why) later = ap (λ files. unread_of (name, why) ∷ files) later

  -- names in order, which have each file that can't be read, tell the same as all names
  in_order : (names : List FileName) → IsStrictlySortedBy name_cmp names → HasAllUnread names → filter_map (unread_at r) names ≡ unread_in r
  in_order names sorted has =
      sym (as_unread names)
      ∙ ap (map unread_of) (gathered_alike name_cmp name_total name_exact (why_unread r) names (finite.keys r.files) sorted (keys_in_order name_cmp r.files) has unread_there)
      ∙ as_unread (finite.keys r.files)

  -- ---- the first one

  module _ (name : FileName) (refused : is_some (why_unread r name) ≡ true) (least : (q : FileName) → is_some (why_unread r q) ≡ true → is_lt (name_cmp q name) ≡ false) where
    first_among : (names : List FileName) → IsStrictlySortedBy name_cmp names → list_any (name_eq name) names ≡ true → slice_get (filter_map (unread_at r) names) 0 ≡ unread_at r name
    unfolding IsStrictlySortedBy
    first_among [] sorted among = cc among
    first_among (x ∷ names) sorted among = cases (first_among names sorted.1) (name_eq name x) refl among (why_unread r x) refl where
      cases : (list_any (name_eq name) names ≡ true → slice_get (filter_map (unread_at r) names) 0 ≡ unread_at r name)
          → (b : Bool) → name_eq name x ≡ b → (b || list_any (name_eq name) names) ≡ true → (o : Option FileError) → why_unread r x ≡ o
          → slice_get (cons_option (option_map (unread x.kind x.id) o) (filter_map (unread_at r) names)) 0 ≡ unread_at r name
      cases others true same _ None is = cc (refused, ap (λ n. is_some (why_unread r n)) (tells_apart name_exact name x same), ap is_some is)
      cases others true same _ (Some why) is =
          sym (ap (unread_at r) (tells_apart name_exact name x same) ∙ ap (option_map (unread x.kind x.id)) is)
      cases others false other rest None is = others rest
      cases others false other rest (Some why) is =
          cc (least x (ap is_some is), ap is_lt (holds_of_one name_exact (λ y. name_cmp x y ≡ Less) names name sorted.0 rest))

    -- the least name of a file that can't be read is the first one's
    first : slice_get (unread_in r) 0 ≡ unread_at r name
    first = first_among (finite.keys r.files) (keys_in_order name_cmp r.files) (unread_there name refused)

  -- ---- what the entries of an `IndexMap` tell

  module _ (es : List (FileName × FileError)) (kept : (q : FileName) → lookup (same_name q) es ≡ why_unread r q) where
    refused_if : (q : FileName) → is_some (why_unread r q) ≡ list_any (same_name q) (keys_of es)
    refused_if q = ap is_some (sym (kept q)) ∙ is_some-lookup (same_name q) es

    same_tells : (x y : FileName) → same_name x y ≡ true → x ≡ y
    same_tells x y same = tells_apart name_exact x y (sym (ap (λ eq. eq x y) same_as_order) ∙ same)

    pub least_first : (name : FileName) → Contains (keys_of es) name → All (λ q. is_lt (name_cmp q name) ≡ false) (keys_of es) → slice_get (unread_in r) 0 ≡ unread_at r name
    least_first name there least = first name (refused_if name ∙ among) not_less where
      among : list_any (same_name name) (keys_of es) ≡ true
      among = ap (λ same. list_any (same name) (keys_of es)) same_as_order
          ∙ list_any-from_Contains (eq_by_cmp_equiv name_total) name (keys_of es) there

      not_less : (q : FileName) → is_some (why_unread r q) ≡ true → is_lt (name_cmp q name) ≡ false
      not_less q refused =
          let at = Contains-from_any same_tells q (keys_of es) (sym (refused_if q) ∙ refused) in
          sym (ap (λ x. is_lt (name_cmp x name)) at.2) ∙ least at.0 q at.1

    pub no_first : keys_of es ≡ [] → slice_get (unread_in r) 0 ≡ None
    unfolding IsStrictlySortedBy
    no_first none = sym (ap (λ files. slice_get files 0) (in_order [] tt (λ q refused. sym (ap (list_any (same_name q)) none) ∙ sym (refused_if q) ∙ refused)))

    pub all_sorted : (names : List FileName) → IsDistinct same_name (keys_of es) → IsPermutation (keys_of es) names → IsSorted name_cmp names → filter_map (unread_at r) names ≡ unread_in r
    all_sorted names distinct moved sorted =
        in_order names (sorted_rise name_total same_as_order (keys_of es) names distinct moved sorted) (λ q refused.
        sym (list_any-IsPermutation (is_at (name_cmp q)) (keys_of es) names moved)
        ∙ sym (ap (λ same. list_any (same q) (keys_of es)) same_as_order)
        ∙ sym (refused_if q) ∙ refused)

-- without a first one there is none
pub none_first : {X : Type 0} (xs : List X) → slice_get xs 0 ≡ None → xs ≡ []
none_first [] h = refl
none_first (x ∷ xs) h = cc h
