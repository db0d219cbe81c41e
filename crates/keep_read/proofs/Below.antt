-- What the nodes of a tree name, and what stands below them.
use Rattle.std.proofs.Common.{◌≡◌, ℕ, zero, suc, ◌-◌, ◌<◌, List, [], ◌∷◌, ◌++◌, map, length, get_or, Option, None, Some, Result, Ok, Err, refl, sym, ap, subst, ◌∙◌, inl, inr, arith, IsOkAnd, codes}
use Rattle.std.proofs.lemmas.List.{append_assoc, map-append}
use Rattle.std.specs.List.{flat_map}
use Rattle.std.specs.Option.{option_map, option_map_or, option_or, unwrap_or}
use Rattle.std.specs.Result.{result_ok}
use Rattle.keep_names.specs.declared.blob.BlobId.{BlobId}
use Rattle.keep_names.specs.declared.id.Id.{Id}
use Rattle.keep_repo.specs.Repository.{Repository}
use Rattle.keep_tree.specs.Tree.{KindData, dir, file, other, NodeData}
use Rattle.keep_names.specs.BlobId.{piece_of, tree_at}
use Rattle.keep_catalog.specs.Naming.{blobs_named, named_at, named_by, named_in, named_of, nodes_at_spot, nodes_chosen, nodes_under}
use Rattle.keep_catalog.specs.Places.{chosen_listing}
use Rattle.keep_reach.specs.Reach.{HasBlob, Naming, Reaches, first_of, has_type_tree, own_or, refusal_at}
use Rattle.keep_catalog.specs.declared.reach_error.ReachError.{ReachError}
use Rattle.keep_reach.specs.Walk.{Walked}
use Rattle.keep_catalog.specs.declared.spot.Spot.{Spot}
use Rattle.keep_read.specs.Contents.{ContentData, contents_at, contents_in, contents_of, nodes_in, under}
use Rattle.keep_read.specs.Found.{AreFound, ArePlaced, IsFound, IsPlaced, spot_in}

-- ---- lists

none_first : (a b : Option ReachError) → option_or a b ≡ None → a ≡ None
none_first None b h = refl
none_first (Some x) b h = h

none_second : (a b : Option ReachError) → option_or a b ≡ None → b ≡ None
none_second None b h = h
none_second (Some x) b h = cc

nil_first : {A : Type 0} (xs ys : List A) → xs ++ ys ≡ [] → xs ≡ []
nil_first [] ys h = refl
nil_first (x ∷ xs) ys h = cc

nil_second : {A : Type 0} (xs ys : List A) → xs ++ ys ≡ [] → ys ≡ []
nil_second [] ys h = h
nil_second (x ∷ xs) ys h = cc

pub nil_map : {A B : Type 0} (f : A → B) (xs : List A) → map f xs ≡ [] → xs ≡ []
nil_map f [] h = refl
nil_map f (x ∷ xs) h = cc

-- nothing was added where the length stayed
pub nil_added : {A : Type 0} (xs ys : List A) → length (xs ++ ys) ≡ length xs → ys ≡ []
nil_added [] [] h = refl
nil_added [] (y ∷ ys) h = absurd (omega (arith, h))
nil_added (x ∷ xs) ys h = let e : length (xs ++ ys) ≡ length xs = omega (arith, h) in nil_added xs ys e

pub map-flat_map : {A B C : Type 0} (g : B → C) (f : A → List B) (xs : List A) → map g (flat_map f xs) ≡ flat_map (λ x. map g (f x)) xs
map-flat_map g f [] = refl
map-flat_map g f (x ∷ xs) = map-append g (f x) (flat_map f xs) ∙ ap (λ ys. map g (f x) ++ ys) (map-flat_map g f xs)

in_left : (xs ys : List BlobId) (b : BlobId) → HasBlob xs b → HasBlob (xs ++ ys) b
in_left [] ys b h = absurd h
in_left (x ∷ xs) ys b (inl here) = inl here
in_left (x ∷ xs) ys b (inr there) = inr (in_left xs ys b there)

in_right : (xs ys : List BlobId) (b : BlobId) → HasBlob ys b → HasBlob (xs ++ ys) b
in_right [] ys b h = h
in_right (x ∷ xs) ys b h = inr (in_right xs ys b h)

-- what an item of a list names is among what the list names
pub in_flat : {A : Type 0} (f : A → List BlobId) (xs : List A) (i : ℕ) (x d : A) → i < length xs → x ≡ get_or xs i d → (b : BlobId) → HasBlob (f x) b → HasBlob (flat_map f xs) b
in_flat f [] i x d lt is b h = absurd (omega arith)
in_flat {A = A} f (y ∷ ys) zero x d lt is b h =
    let P : A → Type 0 = λ z. HasBlob (f z) b in in_left (f y) (flat_map f ys) b (subst P is h)
in_flat f (y ∷ ys) (suc i) x d lt is b h = in_right (f y) (flat_map f ys) b (in_flat f ys i x d (omega arith) is b h)

pub in_map : {A : Type 0} (f : A → BlobId) (xs : List A) (i : ℕ) (d : A) → i < length xs → HasBlob (map f xs) (f (get_or xs i d))
in_map f [] i d lt = absurd (omega arith)
in_map f (y ∷ ys) zero d lt = inl refl
in_map f (y ∷ ys) (suc i) d lt = inr (in_map f ys i d (omega arith))

first_of-append : (refusal : BlobId → Option ReachError) (xs ys : List BlobId) → first_of refusal (xs ++ ys) ≡ option_or (first_of refusal xs) (first_of refusal ys)
first_of-append refusal [] ys = refl
first_of-append refusal (x ∷ xs) ys = ap (option_or (refusal x)) (first_of-append refusal xs ys) ∙ regroup (refusal x) _ _ where
  regroup : (a b c : Option ReachError) → option_or a (option_or b c) ≡ option_or (option_or a b) c
  regroup None b c = refl
  regroup (Some e) b c = refl

-- of blobs that aren't refused, none that an item names is
pub none_refused : {A : Type 0} (refusal : BlobId → Option ReachError) (f : A → List BlobId) (xs : List A) (i : ℕ) (x d : A) → i < length xs → x ≡ get_or xs i d → first_of refusal (flat_map f xs) ≡ None → first_of refusal (f x) ≡ None
none_refused refusal f [] i x d lt is h = absurd (omega arith)
none_refused refusal f (y ∷ ys) zero x d lt is h =
    ap (λ z. first_of refusal (f z)) is ∙ none_first _ _ (sym (first_of-append refusal (f y) (flat_map f ys)) ∙ h)
none_refused refusal f (y ∷ ys) (suc i) x d lt is h =
    none_refused refusal f ys i x d (omega arith) is (none_second _ _ (sym (first_of-append refusal (f y) (flat_map f ys)) ∙ h))

-- ---- a tree that isn't refused

module _ (refusal : BlobId → Option ReachError) where
  by_nodes : (n : Result (List NodeData) ReachError) → own_or refusal (blobs_named n) ≡ None → blobs_named n ≡ Ok (flat_map named_of (unwrap_or (result_ok n) []))
  by_nodes (Ok nodes) h = refl
  by_nodes (Err e) h = cc

  by_listing : (r : Repository) (tree : Id) (o : Option (Spot × Id)) → own_or refusal (named_at r (tree_at tree) o) ≡ None → named_at r (tree_at tree) o ≡ Ok (flat_map named_of (unwrap_or (result_ok (nodes_chosen r tree o)) []))
  by_listing r tree None h = cc
  by_listing r tree (Some e) h = by_nodes (nodes_at_spot r e.0) h

-- a tree that isn't refused names what its nodes name
pub names_nodes : (r : Repository) (refusal : BlobId → Option ReachError) (tree : Id) → own_or refusal (named_by r (tree_at tree)) ≡ None → named_by r (tree_at tree) ≡ Ok (flat_map named_of (nodes_in r tree))
unfolding named_by nodes_in nodes_under
names_nodes r refusal tree h = by_listing refusal r tree (chosen_listing r (tree_at tree)) h

-- ---- reading a tree

chosen_nodes : (r : Repository) (tree : Id) (o : Option (Spot × Id)) (spot : Option Spot) → spot ≡ option_map (λ (e : Spot × Id). e.0) o → unwrap_or (result_ok (nodes_chosen r tree o)) [] ≡ option_map_or (λ s. unwrap_or (result_ok (nodes_at_spot r s)) []) spot []
chosen_nodes r tree None None h = refl
chosen_nodes r tree None (Some s) h = cc
chosen_nodes r tree (Some e) None h = cc
chosen_nodes r tree (Some e) (Some s) h =
    let same : s ≡ e.0 = cc in
    ap (λ x. unwrap_or (result_ok (nodes_at_spot r x)) []) (sym same)

module _ (r : Repository) (reached : Walked) (tree : Id) (placed : IsPlaced r reached (tree_at tree)) where
  nodes_placed : nodes_in r tree ≡ option_map_or (λ s. unwrap_or (result_ok (nodes_at_spot r s)) []) (spot_in reached (tree_at tree)) []
  unfolding nodes_in nodes_under
  nodes_placed = chosen_nodes r tree (chosen_listing r (tree_at tree)) (spot_in reached (tree_at tree)) placed.spot

  pub no_nodes : spot_in reached (tree_at tree) ≡ None → nodes_in r tree ≡ []
  no_nodes none = nodes_placed ∙ ap (λ o. option_map_or (λ s. unwrap_or (result_ok (nodes_at_spot r s)) []) o []) none

  module _ (spot : Spot) (found : spot_in reached (tree_at tree) ≡ Some spot) where
    nodes_there : nodes_in r tree ≡ unwrap_or (result_ok (nodes_at_spot r spot)) []
    nodes_there = nodes_placed ∙ ap (λ o. option_map_or (λ s. unwrap_or (result_ok (nodes_at_spot r s)) []) o []) found

    pub good_nodes : (nodes : List NodeData) → nodes_at_spot r spot ≡ Ok nodes → nodes_in r tree ≡ nodes
    good_nodes nodes is = nodes_there ∙ ap (λ n. unwrap_or (result_ok n) []) is

    pub bad_nodes : (why : ReachError) → nodes_at_spot r spot ≡ Err why → nodes_in r tree ≡ []
    bad_nodes why is = nodes_there ∙ ap (λ n. unwrap_or (result_ok n) []) is

-- there is a level for it
pub has_level : (named : Naming) (levels : ℕ) (tree : Id) → refusal_at named levels (tree_at tree) ≡ None → 0 < levels
has_level named zero tree h = cc
has_level named (suc levels) tree h = omega arith

module _ (r : Repository) where
  -- nothing that it names is refused
  pub below_had : (levels : ℕ) (tree : Id) → refusal_at (named_by r) levels (tree_at tree) ≡ None → first_of (refusal_at (named_by r) (levels - 1)) (flat_map named_of (nodes_in r tree)) ≡ None
  below_had zero tree h = cc
  below_had (suc levels) tree h =
      let e : levels ≡ suc levels - 1 = omega arith in
      let P : ℕ → Type 0 = λ n. first_of (refusal_at (named_by r) n) (flat_map named_of (nodes_in r tree)) ≡ None in
      subst P e (sym (ap (own_or (refusal_at (named_by r) levels)) (names_nodes r (refusal_at (named_by r) levels) tree h)) ∙ h)

  -- all that is reached from what it names was found
  pub below_found : (reached : Walked) (levels : ℕ) (tree : Id) → refusal_at (named_by r) levels (tree_at tree) ≡ None → IsFound r reached levels (tree_at tree) → AreFound r reached (levels - 1) (flat_map named_of (nodes_in r tree))
  below_found reached zero tree h found = cc
  below_found reached (suc levels) tree h found = record {
    each = λ top among. record {
      placed = λ blob reaches.
          let e : suc levels - 1 ≡ levels = omega arith in
          let R : ℕ → Type 0 = λ n. Reaches (named_by r) n top blob in
          let N : Result (List BlobId) ReachError → Type 0 = λ x. IsOkAnd x (λ blobs. HasBlob blobs top) in
          found.placed blob (inr (top, subst N (sym (names_nodes r (refusal_at (named_by r) levels) tree h)) among, subst R e reaches));
    };
  }

  -- and it itself
  pub tree_placed : (reached : Walked) (levels : ℕ) (tree : Id) → refusal_at (named_by r) levels (tree_at tree) ≡ None → IsFound r reached levels (tree_at tree) → IsPlaced r reached (tree_at tree)
  tree_placed reached zero tree h found = cc
  tree_placed reached (suc levels) tree h found = found.placed (tree_at tree) (inl refl)

  is_piece : (content : List Id) (b : BlobId) → HasBlob (map piece_of content) b → (id : Id) × (piece_of id ≡ b)
  is_piece [] b h = absurd h
  is_piece (id ∷ ids) b (inl here) = (id, here)
  is_piece (id ∷ ids) b (inr there) = is_piece ids b there

  -- pieces reach themselves
  pub pieces_placed : (reached : Walked) (levels : ℕ) (content : List Id) → AreFound r reached levels (map piece_of content) → ArePlaced r reached (map piece_of content)
  pieces_placed reached levels content found = record { each = λ b among. one (is_piece content b among) levels ((found.each b among).placed b) } where
    one : {b : BlobId} → (id : Id) × (piece_of id ≡ b) → (n : ℕ) → (Reaches (named_by r) n b b → IsPlaced r reached b) → IsPlaced r reached b
    one p zero placed = placed (ap (λ b. has_type_tree b.blob_type) (sym p.1), refl)
    one p (suc n) placed = placed (inl refl)

  -- ---- what stands below

  -- a path in front of a path
  pub under-under : (a b : List ℕ) (xs : List ContentData) → map (under (a ++ b)) xs ≡ map (under a) (map (under b) xs)
  under-under a b [] = refl
  under-under a b (x ∷ xs) = ap (λ p. (p, x.1) ∷ map (under (a ++ b)) xs) (append_assoc a b x.0) ∙ ap (λ ys. under a (under b x) ∷ ys) (under-under a b xs)

  -- ---- nothing stands below

  one_bare : (levels n : ℕ) → ((tree : Id) → refusal_at (named_by r) levels (tree_at tree) ≡ None → contents_at r levels tree ≡ [] → contents_at r n tree ≡ []) → (name : List ℕ) (kind : KindData) → first_of (refusal_at (named_by r) levels) (named_in kind) ≡ None → map (under name) (contents_in r (contents_at r levels) kind) ≡ [] → map (under name) (contents_in r (contents_at r n) kind) ≡ []
  one_bare levels n bare name (dir subtree) had none =
      ap (map (under name)) (bare subtree (none_first _ _ had) (nil_map (under name) (contents_at r levels subtree) none))
  one_bare levels n bare name (file content) had none = cc
  one_bare levels n bare name (other type_name) had none = cc

  all_bare : (levels n : ℕ) → ((tree : Id) → refusal_at (named_by r) levels (tree_at tree) ≡ None → contents_at r levels tree ≡ [] → contents_at r n tree ≡ []) → (nodes : List NodeData) → first_of (refusal_at (named_by r) levels) (flat_map named_of nodes) ≡ None → flat_map (contents_of r (contents_at r levels)) nodes ≡ [] → flat_map (contents_of r (contents_at r n)) nodes ≡ []
  all_bare levels n bare [] had none = refl
  all_bare levels n bare (node ∷ nodes) had none =
      let parts = sym (first_of-append (refusal_at (named_by r) levels) (named_of node) (flat_map named_of nodes)) ∙ had in
      let here = one_bare levels n bare (codes "/" ++ node.name) node.kind (none_first _ _ parts) (nil_first _ (flat_map (contents_of r (contents_at r levels)) nodes) none) in
      let there = all_bare levels n bare nodes (none_second _ _ parts) (nil_second (contents_of r (contents_at r levels) node) _ none) in
      ap (λ xs. xs ++ flat_map (contents_of r (contents_at r n)) nodes) here ∙ there

  -- where nothing stands below a tree that isn't refused, nothing does at other levels
  pub bare_tree : (levels : ℕ) (tree : Id) → refusal_at (named_by r) levels (tree_at tree) ≡ None → contents_at r levels tree ≡ [] → (n : ℕ) → contents_at r n tree ≡ []
  bare_tree zero tree had none n = cc
  bare_tree (suc levels) tree had none zero = refl
  bare_tree (suc levels) tree had none (suc n) =
      all_bare levels n (λ t h e. bare_tree levels t h e n) (nodes_in r tree)
      (sym (ap (own_or (refusal_at (named_by r) levels)) (names_nodes r (refusal_at (named_by r) levels) tree had)) ∙ had) none
