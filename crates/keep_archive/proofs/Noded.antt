-- One more node of a folder.
use Rattle.std.proofs.Common.{◌≡◌, ℕ, ◌+◌, ◌==◌, Bool, true, false, ◌||◌, cond, List, [], ◌∷◌, ◌++◌, length, refl, sym, ap, ◌∙◌, arith}
use Rattle.std.proofs.Math.Bool.{or-false}
use Rattle.std.proofs.lemmas.Bool.Decides.{nat_tests}
use Rattle.std.proofs.lemmas.List.{length-append, map-append}
use Rattle.std.proofs.lemmas.List.Elements.{All-push}
use Rattle.std.proofs.lemmas.List.Folds.{list_any-append}
use Rattle.std.proofs.lemmas.Slice.Eq.{bytes_eq-Decides}
use Rattle.std.specs.List.{list_any}
use Rattle.std.specs.Set.{distinct_count, unique_keys}
use Rattle.std.specs.Str.{bytes_eq}
use Rattle.keep_tree.specs.Names.{are_distinct}
use Rattle.keep_tree.specs.Shape.{IsNode, IsTree}
use Rattle.keep_tree.specs.Tree.{NodeData, names_of}

abbrev Name : Type 0
Name = List ℕ

-- ---- names that differ

bool_same : (a b : Bool) → (a ≡ true → b ≡ true) → (b ≡ true → a ≡ true) → a ≡ b
bool_same true b f g = sym (f refl)
bool_same false true f g = g refl
bool_same false false f g = refl

pub bytes_turned : (x y : Name) → bytes_eq x y ≡ bytes_eq y x
bytes_turned x y = bool_same (bytes_eq x y) (bytes_eq y x) (turned x y) (turned y x) where
  turned : (a b : Name) → bytes_eq a b ≡ true → bytes_eq b a ≡ true
  turned a b h = (bytes_eq-Decides b a).1 (sym ((bytes_eq-Decides a b).0 h))

first_false : (a b : Bool) → (a || b) ≡ false → (a ≡ false) × (b ≡ false)
first_false true b h = cc h
first_false false b h = (refl, h)

unique_more : (x : Name) (ys : List Name) → list_any (bytes_eq x) ys ≡ false → unique_keys bytes_eq (ys ++ x ∷ []) ≡ unique_keys bytes_eq ys ++ x ∷ []
unique_more x [] other = refl
unique_more x (y ∷ ys) other =
    let parts = first_false (bytes_eq x y) (list_any (bytes_eq x) ys) other in
    let last : (bytes_eq y x || false) ≡ false = ap (λ (t : Bool). t || false) (bytes_turned y x ∙ parts.0) in
    let test : list_any (bytes_eq y) (ys ++ x ∷ []) ≡ list_any (bytes_eq y) ys =
    list_any-append (bytes_eq y) ys (x ∷ []) ∙ ap (λ (t : Bool). list_any (bytes_eq y) ys || t) last ∙ or-false (list_any (bytes_eq y) ys) in
    (λ i. cond (test i) (unique_more x ys parts.1 i) (y ∷ unique_more x ys parts.1 i)) ∙ kept (list_any (bytes_eq y) ys)
  where
    kept : (b : Bool) → cond b (unique_keys bytes_eq ys ++ x ∷ []) (y ∷ (unique_keys bytes_eq ys ++ x ∷ [])) ≡ cond b (unique_keys bytes_eq ys) (y ∷ unique_keys bytes_eq ys) ++ x ∷ []
    kept true = refl
    kept false = refl

more_equal : (n m k l : ℕ) → k ≡ n + 1 → l ≡ m + 1 → (n == m) ≡ true → (k == l) ≡ true
more_equal n m k l ks ls same = grind (arith, nat_tests)

distinct_more : (names : List Name) (x : Name) → are_distinct names ≡ true → list_any (bytes_eq x) names ≡ false → are_distinct (names ++ x ∷ []) ≡ true
distinct_more names x distinct other =
    more_equal (distinct_count bytes_eq names) (length names) (distinct_count bytes_eq (names ++ x ∷ [])) (length (names ++ x ∷ []))
    (ap length (unique_more x names other) ∙ length-append (unique_keys bytes_eq names) (x ∷ [])) (length-append names (x ∷ [])) distinct

-- ---- nodes

pub names_more : (nodes : List NodeData) (node : NodeData) → names_of (nodes ++ node ∷ []) ≡ names_of nodes ++ node.name ∷ []
names_more nodes node = map-append (λ (n : NodeData). n.name) nodes (node ∷ [])

pub tree_more : (nodes : List NodeData) (node : NodeData) → list_any (bytes_eq node.name) (names_of nodes) ≡ false → IsTree nodes → IsNode node → IsTree (nodes ++ node ∷ [])
tree_more nodes node other tree stands = record {
  each = All-push IsNode nodes node tree.each stands;
  distinct = ap are_distinct (names_more nodes node) ∙ distinct_more (names_of nodes) node.name tree.distinct other;
}

-- the names in the set, with one more
pub known_more : (nodes : List NodeData) (node : NodeData) (name key : Name) (there : Bool) → there ≡ cond (bytes_eq key name) true (list_any (bytes_eq name) (names_of nodes)) → key ≡ node.name
    → there ≡ list_any (bytes_eq name) (names_of (nodes ++ node ∷ []))
known_more nodes node name key there is same =
    is ∙ ap (λ (t : Bool). cond t true (list_any (bytes_eq name) (names_of nodes))) (ap (λ (k : Name). bytes_eq k name) same ∙ bytes_turned node.name name)
    ∙ swapped (bytes_eq name node.name) (list_any (bytes_eq name) (names_of nodes))
    ∙ sym (ap (list_any (bytes_eq name)) (names_more nodes node) ∙ list_any-append (bytes_eq name) (names_of nodes) (node.name ∷ [])) where
      swapped : (a b : Bool) → cond a true b ≡ (b || (a || false))
      swapped true true = refl
      swapped true false = refl
      swapped false true = refl
      swapped false false = refl
