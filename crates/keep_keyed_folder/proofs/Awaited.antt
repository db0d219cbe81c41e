-- Paths that are still to be looked at.
use Rattle.std.proofs.Common.{◌≡◌, ◌≢◌, ℕ, zero, suc, ◌⊎◌, eqb, inl, inr, IsTrue, List, [], ◌∷◌, ◌++◌, Some, is_some, string_bytes, refl, sym, ap, ◌∙◌, subst, append_assoc, arith}
use Rattle.std.proofs.lemmas.Bool.{cases_Bool, eqb-false, eqb-true}
use Rattle.std.specs.Str.Iter.{LacksByte}
use Rattle.std.specs.declared.string.String.{String}
use Rattle.keep_paths.specs.Folder.{HoldsKeys, LiesIn}
use Rattle.keep_paths.specs.KeyPath.{key_path}
use Rattle.keep_files.specs.Path.{IsListed}
use Rattle.keep_files.specs.Stands.{IsClosed, Stands}
use Rattle.keep_files.specs.declared.node.Node.TheVariants.{Folder}
use Rattle.keep_keyed_folder.specs.Walked.{AreIn, IsAwaited, IsPlace, Leads}

-- ---- lists of paths

pub awaited_left : {A : Type 0} (front back : List (String A)) (end : List ℕ) → IsAwaited front end → IsAwaited (front ++ back) end
awaited_left {A} [] back end h = absurd h
awaited_left {A} (path ∷ front) back end (inl leads) = inl leads
awaited_left {A} (path ∷ front) back end (inr h) = inr (awaited_left front back end h)

pub awaited_right : {A : Type 0} (front back : List (String A)) (end : List ℕ) → IsAwaited back end → IsAwaited (front ++ back) end
awaited_right {A} [] back end h = h
awaited_right {A} (path ∷ front) back end h = inr (awaited_right front back end h)

-- the last path leads there, or one of the others does
pub awaited_last : {A : Type 0} (front : List (String A)) (path : String A) (end : List ℕ) → IsAwaited (front ++ path ∷ []) end → IsAwaited front end ⊎ Leads (string_bytes path) end
awaited_last {A} [] path end (inl leads) = inr leads
awaited_last {A} [] path end (inr h) = absurd h
awaited_last {A} (first ∷ front) path end (inl leads) = inl (inl leads)
awaited_last {A} (first ∷ front) path end (inr h) = elim (awaited_last front path end h) [
  | inl awaited ↦ inl (inr awaited)
  | inr leads ↦ inr leads
]

pub awaited_listed : {A : Type 0} (paths : List (String A)) (path end : List ℕ) → IsListed paths path → Leads path end → IsAwaited paths end
awaited_listed {A} [] path end h leads = absurd h
awaited_listed {A} (first ∷ paths) path end (inl same) leads = inl (subst (λ p. Leads p end) (sym same) leads)
awaited_listed {A} (first ∷ paths) path end (inr h) leads = inr (awaited_listed paths path end h leads)

-- ---- folders above a path

pub deeper : (path inner folder : List ℕ) → LiesIn path inner → LiesIn inner folder → LiesIn path folder
deeper path inner folder lies outer = (outer.0 ++ 47 ∷ lies.0, lies.1 ∙ ap (λ h. h ++ 47 ∷ lies.0) outer.1 ∙ append_assoc folder (47 ∷ outer.0) (47 ∷ lies.0))

-- a folder above a place holds keys
pub place_above : (path folder : List ℕ) → IsPlace path → LiesIn path folder → HoldsKeys folder
place_above path folder (inl key) lies = (key.0, key.1, subst (λ p. LiesIn p folder) (sym key.2) lies)
place_above path folder (inr holds) lies = (holds.0, holds.1, deeper (key_path holds.0) path folder holds.2 lies)

-- a text lacks a slash, or there is a first one
lacks_cons : (b : ℕ) (bs : List ℕ) → b ≢ 47 → LacksByte 47 bs → LacksByte 47 (b ∷ bs)
lacks_cons b bs other rest zero l e = other e
lacks_cons b bs other rest (suc k) l e = rest k (omega arith) e

lacks_nothing : LacksByte 47 []
lacks_nothing k l = absurd (omega arith)

first_slash : (bs : List ℕ) → LacksByte 47 bs ⊎ ((name : List ℕ) × (rest : List ℕ) × LacksByte 47 name × (bs ≡ name ++ 47 ∷ rest))
first_slash [] = inl lacks_nothing
first_slash (b ∷ bs) = elim (cases_Bool (eqb b 47)) [
  | inl same ↦ inr ([], bs, lacks_nothing, ap (λ c. c ∷ bs) (eqb-true b 47 same))
  | inr other ↦ elim (first_slash bs) [
    | inl lacks ↦ inl (lacks_cons b bs (eqb-false b 47 other) lacks)
    | inr w ↦ inr (b ∷ w.0, w.1, lacks_cons b w.0 (eqb-false b 47 other) w.2, ap (λ l. b ∷ l) w.3)
  ]
]

-- ---- what lies in a folder is awaited, where the paths in it are

stands_there : (stands : Stands) (path : List ℕ) → stands path ≡ Some Folder → IsTrue (is_some (stands path))
stands_there stands path e = ap is_some e

pub inner_awaited : {A : Type 0} (stands : Stands) (folder path : List ℕ) (inner : List (String A)) → IsClosed stands → AreIn stands folder inner → IsTrue (is_some (stands path)) → LiesIn path folder → IsAwaited inner path
inner_awaited {A} stands folder path inner closed are is lies = elim (first_slash lies.0) [
  | inl lacks ↦ awaited_listed inner path path ((are path).1 (is, inr (lies.0, lacks, lies.1))) (inl refl)
  | inr w ↦
      let step = folder ++ 47 ∷ w.0 in
      let below : LiesIn path step = (w.1, lies.1 ∙ ap (λ l. folder ++ 47 ∷ l) w.3 ∙ sym (append_assoc folder (47 ∷ w.0) (47 ∷ w.1))) in
      awaited_listed inner step path ((are step).1 (stands_there stands step (closed path is step below), inr (w.0, w.2, refl))) (inr below)
]

pub root_awaited : {A : Type 0} (stands : Stands) (path : List ℕ) (inner : List (String A)) → IsClosed stands → AreIn stands [] inner → IsTrue (is_some (stands path)) → IsAwaited inner path
root_awaited {A} stands path inner closed are is = elim (first_slash path) [
  | inl lacks ↦ awaited_listed inner path path ((are path).1 (is, inl (refl, lacks))) (inl refl)
  | inr w ↦
      let below : LiesIn path w.0 = (w.1, w.3) in
      awaited_listed inner w.0 path ((are w.0).1 (stands_there stands w.0 (closed path is w.0 below), inl (refl, w.2))) (inr below)
]
