-- The names of the files of a kind: each that is there is among them, and they are in order.
use Rattle.std.proofs.Common.{◌≡◌, ◌≢◌, Bool, true, false, ◌||◌, cond, List, [], ◌∷◌, map, filter, Some, is_some, refl, sym, ap, subst, ◌∙◌, T, Less, Equal}
use Rattle.std.proofs.Math.Bool.{or-true}
use Rattle.std.proofs.lemmas.Map.Views.{tells_apart}
use Rattle.std.specs.Cmp.{tied_itself}
use Rattle.std.specs.FinMap as finite
use Rattle.std.specs.FinMap.Entries.{below_all}
use Rattle.std.specs.List.{AllByRecursion, find, list_any}
use Rattle.std.specs.List.Sorted.{IsStrictlySortedBy}
use Rattle.std.specs.Ordering.{eq_by_cmp, is_eq, is_lt, ordering_reverse, ordering_then}
use Rattle.keep_names.proofs.Orders.{id_exact, id_total, kind_total, name_exact}
use Rattle.keep_names.specs.FileName.{named}
use Rattle.keep_names.specs.Orders.{id_cmp, kind_cmp, name_cmp}
use Rattle.keep_names.specs.declared.file_name.FileName.{FileName}
use Rattle.keep_names.specs.declared.file_name.Kind.{Kind}
use Rattle.keep_names.specs.declared.file_name.Kind.TheVariants.{Pack, Index, Snapshot}
use Rattle.keep_names.specs.declared.id.Id.{Id}
use Rattle.keep_repo.specs.Repository.{Repository}
use Rattle.keep_repo.specs.Kinds.{ids_among, kind_eq}
use Rattle.keep_catalog.specs.Files.{file_in, ids_in}
use Rattle.keep_catalog.specs.Orders.{same_id}
use Rattle.keep_repo.proofs.Rising.{first_of_both, less, second_of_both}
use Rattle.keep_catalog.proofs.Ordered.{holds_of_one}

pub id_refl : (id : Id) → same_id id id ≡ true
id_refl id = ap is_eq (tied_itself id_total id)

kind_refl : (kind : Kind) → kind_eq kind kind ≡ true
kind_refl Pack = refl
kind_refl Index = refl
kind_refl Snapshot = refl

kind_same : (a b : Kind) → kind_eq a b ≡ true → a ≡ b
kind_same Pack Pack h = refl
kind_same Pack Index h = cc h
kind_same Pack Snapshot h = cc h
kind_same Index Pack h = cc h
kind_same Index Index h = refl
kind_same Index Snapshot h = cc h
kind_same Snapshot Pack h = cc h
kind_same Snapshot Index h = cc h
kind_same Snapshot Snapshot h = refl

not_less : (a b : Id) → id_cmp a b ≡ Less → id_cmp b a ≢ Less
not_less a b h below = cc (id_total.antisymm b a ∙ ap ordering_reverse h, below)

-- the first of these that passes is x, and y is one of them
abbrev IsFound : (Id → Bool) → Id → Id → List Id → Type 0
IsFound p x y ids = (find p ids ≡ Some x) × (list_any (same_id y) ids ≡ true)

abbrev id_of_name : FileName → Id
id_of_name name = name.id

module _ (kind : Kind) where
  abbrev ids_with : Bool → FileName → List FileName → List Id
  ids_with b name names = map id_of_name (cond b (name ∷ filter (λ n. kind_eq n.kind kind) names) (filter (λ n. kind_eq n.kind kind) names))

  behind : (id : Id) (b : Bool) (name : FileName) (names : List FileName) → list_any (same_id id) (ids_among kind names) ≡ true → list_any (same_id id) (ids_with b name names) ≡ true
  behind id true name names h = ap (λ b. same_id id name.id || b) h ∙ or-true (same_id id name.id)
  behind id false name names h = h

  by_name : (names : List FileName) (id : Id) → list_any (eq_by_cmp name_cmp (named kind id)) names ≡ true → list_any (same_id id) (ids_among kind names) ≡ true
  by_name [] id h = cc h
  by_name (name ∷ names) id h = cases (by_name names id) (eq_by_cmp name_cmp (named kind id) name) refl h where
    here : list_any (same_id id) (ids_among kind (named kind id ∷ names)) ≡ true
    here =
        let B : Bool → Type 0 = λ b. list_any (same_id id) (ids_with b (named kind id) names) ≡ true in
        subst B (sym (kind_refl kind)) (ap (λ b. b || list_any (same_id id) (ids_among kind names)) (id_refl id))

    cases : (list_any (eq_by_cmp name_cmp (named kind id)) names ≡ true → list_any (same_id id) (ids_among kind names) ≡ true) → (b : Bool) → eq_by_cmp name_cmp (named kind id) name ≡ b → (b || list_any (eq_by_cmp name_cmp (named kind id)) names) ≡ true → list_any (same_id id) (ids_among kind (name ∷ names)) ≡ true
    cases others true same _ =
        let P : FileName → Type 0 = λ x. list_any (same_id id) (ids_among kind (x ∷ names)) ≡ true in
        subst P (tells_apart name_exact (named kind id) name same) here
    cases others false _ rest = behind id (kind_eq name.kind kind) name names (others rest)

  -- a file that is there is among them
  pub id_there : (r : Repository) (id : Id) → is_some (file_in r kind id) ≡ true → list_any (same_id id) (ids_in r kind) ≡ true
  unfolding file_in
  id_there r id there = by_name (finite.keys r.files) id (sym (finite.contains_key-keys r.files (named kind id)) ∙ there)

  -- ---- their order

  -- of two names of this kind the lesser has the lesser id
  lesser : (a b : FileName) → a.kind ≡ kind → b.kind ≡ kind → name_cmp a b ≡ Less → id_cmp a.id b.id ≡ Less
  lesser a b ka kb below =
      let tied : kind_cmp a.kind b.kind ≡ Equal = ap (λ k. kind_cmp k b.kind) ka ∙ ap (kind_cmp kind) kb ∙ tied_itself kind_total kind in
      sym (ap (λ o. ordering_then o (id_cmp a.id b.id)) tied) ∙ below

  module _ {X : Type 0} where
    abbrev names : List (FileName × X) → List FileName
    names es = map (λ e. e.0) es

    -- those behind a name are above it
    above : (name : FileName) (es : List (FileName × X)) → name.kind ≡ kind → T (below_all name_cmp name es) → AllByRecursion (λ id. id_cmp name.id id ≡ Less) (ids_among kind (names es))
    above name [] is h = tt
    above name (e ∷ es) is h = cases (above name es is (second_of_both (is_lt (name_cmp name e.0)) (below_all name_cmp name es) h)) (kind_eq e.0.kind kind) refl where
      cases : AllByRecursion (λ id. id_cmp name.id id ≡ Less) (ids_among kind (names es)) → (b : Bool) → kind_eq e.0.kind kind ≡ b → AllByRecursion (λ id. id_cmp name.id id ≡ Less) (ids_with b e.0 (names es))
      cases rest true same = (lesser name e.0 is (kind_same e.0.kind kind same) (less (name_cmp name e.0) (first_of_both (is_lt (name_cmp name e.0)) (below_all name_cmp name es) h)), rest)
      cases rest false other = rest

    -- the first that passes a test isn't above another that does
    least : (p : Id → Bool) (es : List (FileName × X)) (x y : Id) → T (finite.is_sorted name_cmp es) → p y ≡ true → IsFound p x y (ids_among kind (names es)) → id_cmp y x ≢ Less
    least p [] x y sorted passes found = cc found.1
    least p (e ∷ es) x y sorted passes found = cases (least p es x y (second_of_both (below_all name_cmp e.0 es) (finite.is_sorted name_cmp es) sorted) passes) (kind_eq e.0.kind kind) refl found where
      after : kind_eq e.0.kind kind ≡ true → AllByRecursion (λ id. id_cmp e.0.id id ≡ Less) (ids_among kind (names es))
      after same = above e.0 es (kind_same e.0.kind kind same) (first_of_both (below_all name_cmp e.0 es) (finite.is_sorted name_cmp es) sorted)

      Later : Type 0
      Later = IsFound p x y (ids_among kind (names es)) → id_cmp y x ≢ Less

      picked : Later → (q : Bool) → p e.0.id ≡ q → (s : Bool) → same_id y e.0.id ≡ s → kind_eq e.0.kind kind ≡ true → cond q (Some e.0.id) (find p (ids_among kind (names es))) ≡ Some x → (s || list_any (same_id y) (ids_among kind (names es))) ≡ true → id_cmp y x ≢ Less
      picked later true here true same k f a =
          let is : e.0.id ≡ x = cc f in
          let N : Id → Type 0 = λ i. id_cmp y i ≢ Less in
          let at : y ≡ e.0.id = tells_apart id_exact y e.0.id same in
          let M : Id → Type 0 = λ i. id_cmp i e.0.id ≢ Less in
          subst N is (subst M (sym at) (λ below. cc (tied_itself id_total e.0.id, below)))
      picked later true here false other k f a =
          let is : e.0.id ≡ x = cc f in
          let N : Id → Type 0 = λ i. id_cmp y i ≢ Less in
          subst N is (not_less e.0.id y (holds_of_one id_exact (λ id. id_cmp e.0.id id ≡ Less) (ids_among kind (names es)) y (after k) a))
      picked later false here true same k f a =
          let at : p y ≡ p e.0.id = ap p (tells_apart id_exact y e.0.id same) in
          cc (at, passes, here)
      picked later false here false other k f a = later (f, a)

      cases : Later → (b : Bool) → kind_eq e.0.kind kind ≡ b → IsFound p x y (ids_with b e.0 (names es)) → id_cmp y x ≢ Less
      cases later true k f = picked later (p e.0.id) refl (same_id y e.0.id) refl k f.0 f.1
      cases later false k f = later f

  pub first_is_least : (r : Repository) (p : Id → Bool) (x y : Id) → find p (ids_in r kind) ≡ Some x → p y ≡ true → list_any (same_id y) (ids_in r kind) ≡ true → id_cmp y x ≢ Less
  first_is_least r p x y found passes among =
      least p (finite.entries r.files) x y (finite.entries_sorted r.files) passes (found, among)

  -- they are in order
  module _ {X : Type 0} where
    rise : (es : List (FileName × X)) → T (finite.is_sorted name_cmp es) → IsStrictlySortedBy id_cmp (ids_among kind (names es))
    unfolding IsStrictlySortedBy
    rise [] sorted = tt
    rise (e ∷ es) sorted = cases (rise es (second_of_both (below_all name_cmp e.0 es) (finite.is_sorted name_cmp es) sorted)) (kind_eq e.0.kind kind) refl where
      cases : IsStrictlySortedBy id_cmp (ids_among kind (names es)) → (b : Bool) → kind_eq e.0.kind kind ≡ b → IsStrictlySortedBy id_cmp (ids_with b e.0 (names es))
      cases rest true same = (above e.0 es (kind_same e.0.kind kind same) (first_of_both (below_all name_cmp e.0 es) (finite.is_sorted name_cmp es) sorted), rest)
      cases rest false other = rest

  pub ids_rise : (r : Repository) → IsStrictlySortedBy id_cmp (ids_in r kind)
  ids_rise r = rise (finite.entries r.files) (finite.entries_sorted r.files)
