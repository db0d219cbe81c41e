-- Lent entries by path: one more, one looked up, and all paths in order.
use Rattle.std.proofs.Common.{◌≡◌, ℕ, Bool, true, false, cond, List, [], ◌∷◌, map, Option, None, Some, String, string_bytes, Ordering, Less, refl, sym, ap, ◌∙◌}
use Rattle.std.specs.BTreeMap.{IsOrdered, Updates, is_at}
use Rattle.std.specs.BTreeMap as tree
use Rattle.std.specs.Borrow.{Bor}
use Rattle.std.specs.Cmp.Lexicographic.{nat_list_cmp_total, slice_cmp}
use Rattle.std.specs.FinMap as finite
use Rattle.std.specs.FinMap.{nat_cmp-IsAntisymmetric, slice_cmp-IsAntisymmetric}
use Rattle.std.specs.List.{AllByRecursion, filter_map}
use Rattle.std.specs.List.Sorted.{IsStrictlySortedBy}
use Rattle.std.specs.Map.{keys_of, lookup}
use Rattle.std.specs.Option.{option_map}
use Rattle.std.specs.Ordering.{is_eq, nat_cmp}
use Rattle.std.specs.Str.{bytes_eq}
use Rattle.std.specs.String.{string_cmp}
use Rattle.std.proofs.lemmas.Map.Keys.{sorted_head, sorted_tail}
use Rattle.std.proofs.lemmas.Map.Text.{btree_map_updates_text, is_eq-slice_cmp}
use Rattle.std.specs.declared.alloc.Global.{Global}
use Rattle.keep_repo.proofs.Maps.{get_made, keys_made, one_put}
use Rattle.keep_read.specs.Restored.{path_cmp}
use Rattle.keep_nodes.specs.Choosing.{lent_view}
use Rattle.keep_nodes.specs.Entries.{EntryData}
use Rattle.keep_nodes.specs.declared.path_node.PathNode.{PathNode}
use Rattle.keep_nodes.specs.Differences.{by_path, difference_at, differences, put_all}
use Rattle.keep_nodes.specs.Lent.{Lent, key_view, paths_of}

lookup_view : (es : List (String Global × Bor PathNode)) (q : List ℕ) → lookup (is_at (path_cmp q)) (map key_view es) ≡ option_map lent_view (lookup (is_at (λ k. slice_cmp nat_cmp q (string_bytes k))) es)
lookup_view [] q = refl
lookup_view (e ∷ es) q = one (is_eq (slice_cmp nat_cmp q (string_bytes e.0))) _ (lookup (is_at (λ k. slice_cmp nat_cmp q (string_bytes k))) es) (lookup_view es q) where
  one : (b : Bool) (a : Option EntryData) (c : Option (Bor PathNode)) → a ≡ option_map lent_view c → cond b (Some (lent_view e.1)) a ≡ option_map lent_view (cond b (Some e.1) c)
  one true a c h = refl
  one false a c h = h

-- one more entry
pub one_more : (m n : Lent) (path : String Global) (entry : Bor PathNode) → Updates string_cmp m n path (Some entry) → paths_of n ≡ finite.insert (paths_of m) (string_bytes path) (lent_view entry)
one_more m n path entry put =
    one_put nat_list_cmp_total (slice_cmp-IsAntisymmetric nat_cmp-IsAntisymmetric) (map key_view m.entries) (map key_view n.entries) (string_bytes path) (lent_view entry) (λ q.
    lookup_view n.entries q ∙ ap (option_map lent_view) (btree_map_updates_text (string_bytes path) m n (Some entry) put q)
    ∙ turn (bytes_eq (string_bytes path) q) q
    ∙ ap (λ b. cond b (Some (lent_view entry)) (lookup (is_at (path_cmp q)) (map key_view m.entries))) (sym (is_eq-slice_cmp (string_bytes path) q))) where
      turn : (b : Bool) (q : List ℕ) → option_map lent_view (cond b (Some entry) (tree.get_by_text m q)) ≡ cond b (Some (lent_view entry)) (lookup (is_at (path_cmp q)) (map key_view m.entries))
      turn true q = refl
      turn false q = sym (lookup_view m.entries q)

-- the entry at a path
pub looked_up : (m : Lent) (q : List ℕ) → finite.get (paths_of m) q ≡ option_map lent_view (tree.get_by_text m q)
looked_up m q = get_made nat_list_cmp_total (map key_view m.entries) q ∙ lookup_view m.entries q

-- ---- the paths in order

-- the path of a key
abbrev pub path_in : String Global × Bor PathNode → List ℕ
path_in e = string_bytes e.0

keys_viewed : (es : List (String Global × Bor PathNode)) → keys_of (map key_view es) ≡ map path_in es
keys_viewed [] = refl
keys_viewed (e ∷ es) = ap (λ ks. string_bytes e.0 ∷ ks) (keys_viewed es)

above : (k : String Global) (es : List (String Global × Bor PathNode)) → AllByRecursion (λ y. string_cmp k y ≡ Less) (keys_of es) → AllByRecursion (λ y. path_cmp (string_bytes k) y ≡ Less) (keys_of (map key_view es))
above k [] h = tt
above k (e ∷ es) h = (h.0, above k es h.1)

sorted : (es : List (String Global × Bor PathNode)) → IsStrictlySortedBy string_cmp (keys_of es) → IsStrictlySortedBy path_cmp (keys_of (map key_view es))
unfolding IsStrictlySortedBy
sorted [] h = tt
sorted (e ∷ es) h = (above e.0 es h.0, sorted es h.1)

-- the paths of a map are its keys
pub paths_listed : (m : Lent) → IsOrdered string_cmp m → finite.keys (paths_of m) ≡ map path_in m.entries
paths_listed m ordered = keys_made nat_list_cmp_total (map key_view m.entries) (sorted m.entries ordered) ∙ keys_viewed m.entries

-- ---- differences

-- of maps that are right
pub told : (o n a : finite.FinMap path_cmp EntryData) (old new : List EntryData) → o ≡ by_path old → n ≡ by_path new → a ≡ put_all (by_path old) new → filter_map (difference_at o n) (finite.keys a) ≡ differences old new
unfolding differences
told o n a old new is_old is_new is_all =
    ap (λ x. filter_map (difference_at x n) (finite.keys a)) is_old
    ∙ ap (λ x. filter_map (difference_at (by_path old) x) (finite.keys a)) is_new
    ∙ ap (λ x. filter_map (difference_at (by_path old) (by_path new)) (finite.keys x)) is_all
