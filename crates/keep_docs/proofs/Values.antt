-- The values that a program holds are readable, where none is a float.
use Rattle.std.proofs.Common as std
use Rattle.std.proofs.Common.{◌≡◌, ◌⊎◌, inl, inr, List, [], ◌∷◌, ◌++◌, Global, string_bytes, string_cmp, sym, subst, rules}
use Rattle.std.proofs.lemmas.Str.{IsUtf8-string_bytes}
use Rattle.std.specs.List.{AllByRecursion}
use Rattle.std.specs.List.Sorted.{IsStrictlySortedBy}
use Rattle.std.specs.Map.{keys_of}
use Rattle.serde_json.specs.Data.{null, boolean, string}
use Rattle.serde_json.specs.View.{view, items_view, members_view}
use Rattle.serde_json.specs.declared.value.Value.{Value, Null, Bool, String, the_lemmas}
use Rattle.serde_json.proofs.Views.{Entry}
use Rattle.keep_docs.specs.Readable.{IsReadable, AreReadable, HasReadable}
use Rattle.keep_docs.proofs.Members.{stands_before}

-- ---- values that hold no others

IsReadable-Null : IsReadable (view Null)
IsReadable-Null =
    let seen : view Null ≡ null = search (rules, the_lemmas) in
    subst IsReadable (sym seen) tt

IsReadable-Bool : (b : std.Bool) → IsReadable (view (Bool b))
IsReadable-Bool b =
    let seen : view (Bool b) ≡ boolean b = search (rules, the_lemmas) in
    subst IsReadable (sym seen) tt

IsReadable-String : (s : std.String Global) → IsReadable (view (String s))
IsReadable-String s =
    let seen : view (String s) ≡ string (string_bytes s) = search (rules, the_lemmas) in
    subst IsReadable (sym seen) (IsUtf8-string_bytes s)

pub IsReadable-plain : (v : Value) → (v ≡ Null) ⊎ (((b : std.Bool) × (v ≡ Bool b)) ⊎ ((s : std.String Global) × (v ≡ String s))) → IsReadable (view v)
IsReadable-plain v (inl e) = subst (λ w. IsReadable (view w)) (sym e) IsReadable-Null
IsReadable-plain v (inr (inl b)) = subst (λ w. IsReadable (view w)) (sym b.1) (IsReadable-Bool b.0)
IsReadable-plain v (inr (inr s)) = subst (λ w. IsReadable (view w)) (sym s.1) (IsReadable-String s.0)

-- ---- lists and objects

pub AreReadable-push : (vs : List Value) (v : Value) → AreReadable (items_view vs) → IsReadable (view v) → AreReadable (items_view (vs ++ v ∷ []))
AreReadable-push [] v h readable = (readable, tt)
AreReadable-push (w ∷ vs) v h readable = (h.0, AreReadable-push vs v h.1 readable)

abbrev pub EachReadable : List Entry → Type 0
EachReadable es = AllByRecursion (λ e. IsReadable (view e.1)) es

pub EachReadable-push : (es : List Entry) (e : Entry) → EachReadable es → IsReadable (view e.1) → EachReadable (es ++ e ∷ [])
EachReadable-push [] e h readable = (readable, tt)
EachReadable-push (f ∷ es) e h readable = (h.0, EachReadable-push es e h.1 readable)

-- the keys of a map ascend
pub HasReadable-entries : (es : List Entry) → EachReadable es → IsStrictlySortedBy string_cmp (keys_of es) → HasReadable (members_view es)
unfolding IsStrictlySortedBy
HasReadable-entries [] h order = tt
HasReadable-entries (e ∷ es) h order = (IsUtf8-string_bytes e.0, h.0, stands_before e.0 es order.0, HasReadable-entries es h.1 order.1)
