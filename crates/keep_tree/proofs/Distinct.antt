-- Names in a set: it has as many as differ.
use Rattle.std.proofs.Common.{◌≡◌, ℕ, Bool, ◌||◌, cond, List, [], ◌∷◌, length, map, Ordering, Less, Bor, BTreeSet, btree_set_len, string_bytes, refl, sym, ap, ap₂, ◌∙◌}
use Rattle.std.proofs.lemmas.Cmp.{eq_by_cmp_equiv, nat_list_cmp_total}
use Rattle.std.proofs.lemmas.Map.Keys.{IsDistinct-from_sorted}
use Rattle.std.proofs.lemmas.Map.Made.{length-from_keys}
use Rattle.std.proofs.lemmas.Map.Text.{is_eq-slice_cmp}
use Rattle.std.proofs.lemmas.List.{length-map}
use Rattle.std.specs.BTreeSet.{IsFromIterResult}
use Rattle.std.specs.Cmp.Lexicographic.{slice_cmp}
use Rattle.std.specs.List.{AllByRecursion, list_any}
use Rattle.std.specs.List.Sorted.{IsStrictlySortedBy}
use Rattle.std.specs.Ordering.{eq_by_cmp, nat_cmp}
use Rattle.std.specs.Set.{unique_keys, distinct_count}
use Rattle.std.specs.Str.{bytes_eq}
use Rattle.keep_docs.proofs.Members.{list_any-map}
use Rattle.keep_tree.specs.Tree.{names_of, node_view}
use Rattle.keep_tree.specs.declared.node.Node.{Node}

-- ---- tests that answer alike

module _ {K : Type 0} where
  list_any-same : (p q : K → Bool) → ((x : K) → p x ≡ q x) → (xs : List K) → list_any p xs ≡ list_any q xs
  list_any-same p q h [] = refl
  list_any-same p q h (x ∷ xs) = ap₂ (λ a b. a || b) (h x) (list_any-same p q h xs)

  unique_keys-same : (e f : K → K → Bool) → ((x y : K) → e x y ≡ f x y) → (xs : List K) → unique_keys e xs ≡ unique_keys f xs
  unique_keys-same e f h [] = refl
  unique_keys-same e f h (x ∷ xs) = ap₂ (λ b us. cond b us (x ∷ us)) (list_any-same (e x) (f x) (h x) xs) (unique_keys-same e f h xs)

-- ---- references by what they point to

-- the order of texts behind references
abbrev pub text_cmp : Bor (List ℕ) → Bor (List ℕ) → Ordering
text_cmp x y = slice_cmp nat_cmp x.now y.now

texts_behind : (k : Bor (List ℕ)) (ks : List (Bor (List ℕ))) → AllByRecursion (λ y. text_cmp k y ≡ Less) ks → AllByRecursion (λ y. slice_cmp nat_cmp k.now y ≡ Less) (map (λ r. r.now) ks)
texts_behind k [] h = tt
texts_behind k (x ∷ ks) h = (h.0, texts_behind k ks h.1)

texts_ascend : (ks : List (Bor (List ℕ))) → IsStrictlySortedBy text_cmp ks → IsStrictlySortedBy (slice_cmp nat_cmp) (map (λ r. r.now) ks)
unfolding IsStrictlySortedBy
texts_ascend [] h = tt
texts_ascend (k ∷ ks) h = (texts_behind k ks h.0, texts_ascend ks h.1)

-- a set of texts that was made of a list has as many as differ
pub len-distinct_count : (xs : List (Bor (List ℕ))) (n : BTreeSet (Bor (List ℕ))) → IsFromIterResult text_cmp xs n → btree_set_len n ≡ distinct_count bytes_eq (map (λ r. r.now) xs)
len-distinct_count xs n h =
    let texts : List (Bor (List ℕ)) → List (List ℕ) = λ rs. map (λ r. r.now) rs in
    let eq : List ℕ → List ℕ → Bool = eq_by_cmp (slice_cmp nat_cmp) in
    let same = λ (q : List ℕ). list_any-map (eq q) (λ (r : Bor (List ℕ)). r.now) n.keys
    ∙ h.0 (record { ref_ptr = (0, 0); now = q })
    ∙ sym (list_any-map (eq q) (λ (r : Bor (List ℕ)). r.now) xs) in
    sym (length-map n.keys (λ (r : Bor (List ℕ)). r.now))
    ∙ length-from_keys (eq_by_cmp_equiv nat_list_cmp_total) (texts n.keys) (texts xs) (IsDistinct-from_sorted (slice_cmp nat_cmp) (texts n.keys) (texts_ascend n.keys h.1)) same
    ∙ ap length (unique_keys-same eq bytes_eq is_eq-slice_cmp (texts xs))

-- the names of nodes, one by one
pub names_of-nodes : (nodes : List Node) → names_of (map node_view nodes) ≡ map (λ node. string_bytes node.name) nodes
names_of-nodes [] = refl
names_of-nodes (node ∷ nodes) = ap (λ names. string_bytes node.name ∷ names) (names_of-nodes nodes)
