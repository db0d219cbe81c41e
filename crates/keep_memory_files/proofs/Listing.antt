-- A walk over the paths of a tree in memory, for those that a folder holds.
use Rattle.std.proofs.Common.{◌≡◌, ◌∙◌, ◌↔◌, ℕ, Bool, true, false, cond, Bor, List, [], ◌∷◌, ◌++◌, map, Option, Some, IsTrue, is_some, refl, sym, ap, subst, inl, inr, ◌⊎◌, string_bytes}
use Rattle.std.proofs.lemmas.Map.Text.{is_eq-slice_cmp}
use Rattle.std.proofs.lemmas.Slice.Eq.{bytes_eq-Decides}
use Rattle.std.specs.BTreeMap.{BTreeMap, is_at}
use Rattle.std.specs.BTreeMap.Range.{entries_between, range_contains}
use Rattle.std.specs.Bool.{Decides}
use Rattle.std.specs.Cmp.Lexicographic.{slice_cmp}
use Rattle.std.specs.List.{filter}
use Rattle.std.specs.Map.{keys_of, lookup}
use Rattle.std.specs.Map.Iter.{deref_pair}
use Rattle.std.specs.Ordering.{nat_cmp}
use Rattle.std.specs.String.{string_cmp}
use Rattle.std.specs.declared.alloc.Global.{Global}
use Rattle.std.specs.declared.ops.Bound.{Bound}
use Rattle.std.specs.declared.string.String.{String}
use Rattle.keep_files.specs.Path.{IsHeldIn, IsListed}
use Rattle.keep_files.specs.declared.node.Node.{Node}
use Rattle.keep_memory_files.specs.Bounds.{BoundAllIn}
use Rattle.keep_memory_files.specs.Memory.{standing}

-- of these paths those are found that the folder holds
abbrev pub Finds : List (String Global) → List (String Global) → List ℕ → Type 0
Finds found among folder = (path : List ℕ) → IsListed found path ↔ (IsListed among path × IsHeldIn path folder)

listed_front : (texts more : List (String Global)) (path : List ℕ) → IsListed texts path → IsListed (texts ++ more) path
listed_front [] more path none = absurd none
listed_front (text ∷ texts) more path (inl is) = inl is
listed_front (text ∷ texts) more path (inr rest) = inr (listed_front texts more path rest)

listed_last : (texts : List (String Global)) (text : String Global) (path : List ℕ) → string_bytes text ≡ path → IsListed (texts ++ text ∷ []) path
listed_last [] text path is = inl is
listed_last (first ∷ texts) text path is = inr (listed_last texts text path is)

listed_either : (texts : List (String Global)) (text : String Global) (path : List ℕ) → IsListed (texts ++ text ∷ []) path → IsListed texts path ⊎ (string_bytes text ≡ path)
listed_either [] text path (inl is) = inr is
listed_either [] text path (inr none) = absurd none
listed_either (first ∷ texts) text path (inl is) = inl (inl is)
listed_either (first ∷ texts) text path (inr rest) =
    elim (listed_either texts text path rest) [ inl there ↦ inl (inr there) | inr is ↦ inr is ]

-- before the first
pub none_found : (folder : List ℕ) → Finds [] [] folder
none_found folder path = ((λ h. absurd h), λ h. absurd h.0)

-- a path that the folder holds is taken, as a copy
pub one_taken : (found among : List (String Global)) (folder : List ℕ) (copy text : String Global) → Finds found among folder → string_bytes copy ≡ string_bytes text
    → IsHeldIn (string_bytes text) folder → Finds (found ++ copy ∷ []) (among ++ text ∷ []) folder
one_taken found among folder copy text before same held path = (
  λ h. elim (listed_either found copy path h) [
    | inl there ↦ (listed_front among (text ∷ []) path ((before path).0 there).0, ((before path).0 there).1)
    | inr is ↦ (listed_last among text path (sym same ∙ is), subst (λ p. IsHeldIn p folder) (sym same ∙ is) held)
  ],
  λ h. elim (listed_either among text path h.0) [
    | inl there ↦ listed_front found (copy ∷ []) path ((before path).1 (there, h.1))
    | inr is ↦ listed_last found copy path (same ∙ is)
  ],
)

-- and one that it doesn't hold is passed over
pub one_passed : (found among : List (String Global)) (folder : List ℕ) (text : String Global) → Finds found among folder → (IsHeldIn (string_bytes text) folder → ⊥)
    → Finds found (among ++ text ∷ []) folder
one_passed found among folder text before apart path = (
  λ h. (listed_front among (text ∷ []) path ((before path).0 h).0, ((before path).0 h).1),
  λ h. elim (listed_either among text path h.0) [
    | inl there ↦ (before path).1 (there, h.1)
    | inr is ↦ absurd (apart (subst (λ p. IsHeldIn p folder) (sym is) h.1))
  ],
)

-- ---- what stands is what has a path among them

here : (path : List ℕ) (text : String Global) → Decides (is_at (λ k. slice_cmp nat_cmp path (string_bytes k)) text) (path ≡ string_bytes text)
here path text = subst (λ (b : Bool). Decides b (path ≡ string_bytes text)) (sym (is_eq-slice_cmp path (string_bytes text))) (bytes_eq-Decides path (string_bytes text))

step : (b : Bool) (text : String Global) (path : List ℕ) (node : Node) (rest : Option Node) → Decides b (path ≡ string_bytes text)
    → IsTrue (is_some (cond b (Some node) rest)) ↔ ((string_bytes text ≡ path) ⊎ IsTrue (is_some rest))
step true text path node rest tells = (λ _. inl (sym (tells.0 refl)), λ _. refl)
step false text path node rest tells = (
  λ there. inr there,
  λ h. elim h [
    | inl is ↦ (let wrong : false ≡ true = tells.1 (sym is) in cc wrong)
    | inr there ↦ there
  ],
)

there_listed : (entries : List (String Global × Node)) (path : List ℕ) → IsTrue (is_some (lookup (is_at (λ k. slice_cmp nat_cmp path (string_bytes k))) entries)) ↔ IsListed (keys_of entries) path
there_listed [] path = (λ there. cc there, λ none. absurd none)
there_listed (e ∷ es) path =
    let test = is_at (λ (k : String Global). slice_cmp nat_cmp path (string_bytes k)) in
    let one = step (test e.0) e.0 path e.1 (lookup test es) (here path e.0) in
    let more = there_listed es path in (
      λ h. elim (one.0 h) [ inl is ↦ inl is | inr there ↦ inr (more.0 there) ],
      λ h. elim h [ inl is ↦ one.1 (inl is) | inr there ↦ one.1 (inr (more.1 there)) ],
    )

-- one entry more, if it passes
one_kept : (b : Bool) (e : String Global × Node) (es kept : List (String Global × Node)) (path : List ℕ) → (IsListed (keys_of kept) path → IsListed (keys_of es) path)
    → IsListed (keys_of (cond b (e ∷ kept) kept)) path → (string_bytes e.0 ≡ path) ⊎ IsListed (keys_of es) path
one_kept true e es kept path more (inl is) = inl is
one_kept true e es kept path more (inr rest) = inr (more rest)
one_kept false e es kept path more rest = inr (more rest)

still_kept : (b : Bool) (e : String Global × Node) (kept : List (String Global × Node)) (path : List ℕ) → IsListed (keys_of kept) path → IsListed (keys_of (cond b (e ∷ kept) kept)) path
still_kept true e kept path rest = inr rest
still_kept false e kept path rest = rest

-- what passes a test is among all, and is all that is asked for where that passes
passed_there : (test : String Global × Node → Bool) (entries : List (String Global × Node)) (path : List ℕ) → IsListed (keys_of (filter test entries)) path → IsListed (keys_of entries) path
passed_there test [] path none = absurd none
passed_there test (e ∷ es) path is = one_kept (test e) e es (filter test es) path (passed_there test es path) is

there_passed : (test : String Global × Node → Bool) (entries : List (String Global × Node)) (path : List ℕ) → ((e : String Global × Node) → string_bytes e.0 ≡ path → test e ≡ true)
    → IsListed (keys_of entries) path → IsListed (keys_of (filter test entries)) path
there_passed test [] path passes none = absurd none
there_passed test (e ∷ es) path passes (inl is) = subst (λ (b : Bool). IsListed (keys_of (cond b (e ∷ filter test es) (filter test es))) path) (sym (passes e is)) (inl is)
there_passed test (e ∷ es) path passes (inr more) = still_kept (test e) e (filter test es) path (there_passed test es path passes more)

-- once all paths between the bounds were walked over
pub all_found : (nodes : BTreeMap (String Global) Node) (found : List (String Global)) (folder : List ℕ) (from to : Bound (String Global)) → BoundAllIn from to folder
    → Finds found (keys_of (entries_between string_cmp from to nodes.entries)) folder
    → (path : List ℕ) → IsListed found path ↔ (IsTrue (is_some (standing nodes path)) × IsHeldIn path folder)
all_found nodes found folder from to bounds whole path =
    let test = λ (e : String Global × Node). range_contains string_cmp from to e.0 in (
      λ h. ((there_listed nodes.entries path).1 (passed_there test nodes.entries path ((whole path).0 h).0), ((whole path).0 h).1),
      λ h. (whole path).1 (
        there_passed test nodes.entries path (λ e is. bounds.all e.0 (subst (λ p. IsHeldIn p folder) (sym is) h.1)) ((there_listed nodes.entries path).0 h.0),
        h.1,
      ),
    )

-- the paths of the entries that were walked over
abbrev pub paths_of : List (Bor (String Global) × Bor Node) → List (String Global)
paths_of pairs = keys_of (map deref_pair pairs)

pub paths_of-push : (pairs : List (Bor (String Global) × Bor Node)) (pair : Bor (String Global) × Bor Node) → paths_of (pairs ++ pair ∷ []) ≡ paths_of pairs ++ pair.0.now ∷ []
paths_of-push [] pair = refl
paths_of-push (first ∷ pairs) pair = ap (λ (texts : List (String Global)). first.0.now ∷ texts) (paths_of-push pairs pair)
