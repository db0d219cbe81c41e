-- Look-ups in entries, and finite maps that are made of the entries of a `BTreeMap`, whose keys an exact order tells apart.
use Rattle.std.proofs.Common.{◌≡◌, Bool, true, false, cond, List, [], ◌∷◌, ◌++◌, length, refl, sym, ap, ◌∙◌, Ordering, Less}
use Rattle.std.specs.Prelude.{Some, None}
use Rattle.std.specs.BTreeMap.{is_at}
use Rattle.std.specs.Cmp.{IsTotalOrder, eq_by_cmp_equiv}
use Rattle.std.specs.FinMap.{IsAntisymmetric, empty, entries, entries-insert, find, from_entries, get, get-from_entries, get-insert, get-remove, insert, keys, len, len-empty, len-entries, put, remove, same_map}
use Rattle.std.specs.List.{AllByRecursion}
use Rattle.std.specs.List.Sorted.{IsStrictlySortedBy}
use Rattle.std.specs.Map.{keys_of, lookup}
use Rattle.std.proofs.lemmas.List.{nil_from_length}
use Rattle.std.proofs.lemmas.Map.Keys.{sorted_head, sorted_tail}

module _ {K X : Type 0} (test : K → Bool) where
  -- what isn't found among the first is looked up among the others
  pub past_first : (es fs : List (K × X)) → lookup test es ≡ None → lookup test (es ++ fs) ≡ lookup test fs
  past_first [] fs none = refl
  past_first (e ∷ es) fs none = elim (test e.0) as (λ b. cond b (Some e.1) (lookup test es) ≡ None → cond b (Some e.1) (lookup test (es ++ fs)) ≡ lookup test fs) [ true ↦ λ h. cc h | false ↦ past_first es fs ] none

  -- what isn't found among the others is looked up among the first
  pub within_first : (es fs : List (K × X)) → lookup test fs ≡ None → lookup test (es ++ fs) ≡ lookup test es
  within_first [] fs none = none
  within_first (e ∷ es) fs none = ap (cond (test e.0) (Some e.1)) (within_first es fs none)

module _ {K X : Type 0} (R : K → K → Ordering) where
  find_lookup : (es : List (K × X)) (q : K) → find R q es ≡ lookup (is_at (R q)) es
  find_lookup [] q = refl
  find_lookup (e ∷ es) q = ap (cond (is_at (R q) e.0) (Some e.1)) (find_lookup es q)

  -- an entry is put before those above it
  put_first : (k : K) (v : X) (es : List (K × X)) → AllByRecursion (λ y. R k y ≡ Less) (keys_of es) → put R k v es ≡ (k, v) ∷ es
  put_first k v [] h = refl
  put_first k v (e ∷ es) h = rw h.0

  pub no_entries : entries (empty {X = X} {R = R}) ≡ []
  no_entries = nil_from_length _ (sym (len-entries empty) ∙ len-empty R X)

module _ {K X : Type 0} {R : K → K → Ordering} (total : IsTotalOrder R) where
  -- what the map that the entries make has at a key
  pub get_made : (es : List (K × X)) (q : K) → get (from_entries {R = R} es) q ≡ lookup (is_at (R q)) es
  get_made es q = get-from_entries total es q ∙ find_lookup R es q

  -- entries in order are those of the map that they make
  pub entries_made : (es : List (K × X)) → IsStrictlySortedBy R (keys_of es) → entries (from_entries {R = R} es) ≡ es
  entries_made [] h = no_entries R
  entries_made (e ∷ es) h =
      entries-insert total (from_entries es) e.0 e.1
      ∙ ap (put R e.0 e.1) (entries_made es (sorted_tail R e.0 (keys_of es) h))
      ∙ put_first R e.0 e.1 es (sorted_head R e.0 (keys_of es) h)

  pub keys_made : (es : List (K × X)) → IsStrictlySortedBy R (keys_of es) → keys (from_entries {R = R} es) ≡ keys_of es
  keys_made es h = ap keys_of (entries_made es h)

  pub len_made : (es : List (K × X)) → IsStrictlySortedBy R (keys_of es) → len (from_entries {R = R} es) ≡ length es
  len_made es h = len-entries (from_entries es) ∙ ap length (entries_made es h)

module _ {K X : Type 0} {R : K → K → Ordering} (total : IsTotalOrder R) (exact : IsAntisymmetric R) where
  -- entries that differ at one key, which has a value there, make maps that differ so
  pub one_put : (es fs : List (K × X)) (k : K) (v : X) → ((q : K) → lookup (is_at (R q)) fs ≡ cond (is_at (R k) q) (Some v) (lookup (is_at (R q)) es)) → from_entries {R = R} fs ≡ insert (from_entries es) k v
  one_put es fs k v h = same_map total exact _ _ (λ q.
      get_made total fs q ∙ h q ∙ ap (λ b. cond b (Some v) (lookup (is_at (R q)) es)) ((eq_by_cmp_equiv total).symm k q)
      ∙ sym (get-insert total (from_entries es) k v q ∙ ap (cond (is_at (R q) k) (Some v)) (get_made total es q)))

  -- entries that differ at one key, which has none there, make maps that differ so
  pub one_removed : (es fs : List (K × X)) (k : K) → ((q : K) → lookup (is_at (R q)) fs ≡ cond (is_at (R k) q) None (lookup (is_at (R q)) es)) → from_entries {R = R} fs ≡ remove (from_entries es) k
  one_removed es fs k h = same_map total exact _ _ (λ q.
      get_made total fs q ∙ h q ∙ ap (λ b. cond b None (lookup (is_at (R q)) es)) ((eq_by_cmp_equiv total).symm k q)
      ∙ sym (get-remove total (from_entries es) k q ∙ ap (cond (is_at (R q) k) None) (get_made total es q)))
