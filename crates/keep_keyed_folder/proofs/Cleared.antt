-- Files under way that are taken away.
use Rattle.std.proofs.Common.{◌≡◌, ℕ, ◌⊎◌, true, false, IsTrue, inl, inr, List, [], ◌∷◌, ◌++◌, Option, Some, None, Result, Ok, Err, is_some, length, string_bytes, refl, sym, ap, ◌∙◌, subst, arith}
use Rattle.std.proofs.lemmas.Bool.{false≢true}
use Rattle.std.specs.Result.{IfErr, OnOk}
use Rattle.std.specs.declared.string.String.{String}
use Rattle.keep_files.proofs.Kept.{put_at-here, put_at-other, same_path}
use Rattle.keep_files.specs.Act.{CanDo, HasFailed, Removed, Seen, done}
use Rattle.keep_files.specs.Path.{IsListed}
use Rattle.keep_files.specs.Stands.{IsClosed, Stands, is_file, is_folder, put_at}
use Rattle.keep_files.specs.declared.tree_error.TreeError.{TreeError}
use Rattle.keep_files.specs.declared.tree_error.TreeError.TheVariants.{Broken, Unknown}
use Rattle.keep_files.specs.declared.node.Node.{Node}
use Rattle.keep_keyed_folder.proofs.Acts.{closed_done, closed_failed}
use Rattle.keep_keyed_folder.specs.Tmp.{IsCleared, IsTmp}

pub closed_removing : (A : Type 0) (r : Result A TreeError) (a b : Seen) (path : List ℕ) → IsClosed a.stands → OnOk r (CanDo a.stands (Removed path)) → OnOk r (b ≡ done a (Removed path))
    → IfErr r (λ e. HasFailed a (Removed path) e b) → IsClosed b.stands
closed_removing A (Ok x) a b path closed can ok err = closed_done a b (Removed path) can ok closed
closed_removing A (Err e) a b path closed can ok err = closed_failed a b (Removed path) e err closed

pub cleared_same : (a b : Stands) → b ≡ a → IsCleared a b
cleared_same a b same path = inl (ap (λ (s : Stands). s path) same)

cleared_one : (a b : Stands) (path : List ℕ) → IsTmp path → is_folder (a path) ≡ false → b ≡ put_at a path None → IsCleared a b
cleared_one a b path tmp file is q = elim (same_path path q) [
  | inl here ↦ inr (subst IsTmp here tmp, subst (λ p. is_folder (a p) ≡ false) here file, ap (λ (s : Stands). s q) is ∙ subst (λ p. put_at a path None p ≡ None) here (put_at-here a path None))
  | inr other ↦ inl (ap (λ (s : Stands). s q) is ∙ put_at-other a path None q other)
]

cleared_failing : (a b : Seen) (path : List ℕ) (e : TreeError) → IsTmp path → HasFailed a (Removed path) e b → IsCleared a.stands b.stands
cleared_failing a b path Broken tmp h = cleared_same a.stands b.stands (ap (λ (s : Seen). s.stands) h)
cleared_failing a b path Unknown tmp (inl h) = cleared_same a.stands b.stands (ap (λ (s : Seen). s.stands) h)
cleared_failing a b path Unknown tmp (inr h) = cleared_one a.stands b.stands path tmp h.0 (ap (λ (s : Seen). s.stands) h.1)

pub cleared_removing : (A : Type 0) (r : Result A TreeError) (a b : Seen) (path : List ℕ) → IsTmp path → OnOk r (CanDo a.stands (Removed path)) → OnOk r (b ≡ done a (Removed path))
    → IfErr r (λ e. HasFailed a (Removed path) e b) → IsCleared a.stands b.stands
cleared_removing A (Ok x) a b path tmp can ok err = cleared_one a.stands b.stands path tmp can (ap (λ (s : Seen). s.stands) ok)
cleared_removing A (Err e) a b path tmp can ok err = cleared_failing a b path e tmp err

pub cleared_then : (a b d : Stands) → IsCleared a b → IsCleared b d → IsCleared a d
cleared_then a b d first next q = elim (next q) [
  | inl same ↦ elim (first q) [
    | inl was ↦ inl (same ∙ was)
    | inr gone ↦ inr (gone.0, gone.1, same ∙ gone.2)
  ]
  | inr gone ↦ elim (first q) [
    | inl was ↦ inr (gone.0, ap is_folder (sym was) ∙ gone.1, gone.2)
    | inr before ↦ inr (before.0, before.1, gone.2)
  ]
]

-- a file that is still there was there
pub still_file : (a b : Stands) (path : List ℕ) → IsCleared a b → is_file (b path) ≡ true → is_file (a path) ≡ true
still_file a b path cleared file = elim (cleared path) [
  | inl same ↦ ap is_file (sym same) ∙ file
  | inr gone ↦ absurd (false≢true (sym (ap is_file gone.2) ∙ file))
]

pub file_is_there : (node : Option Node) → is_file node ≡ true → IsTrue (is_some node)
file_is_there None h = absurd (false≢true h)
file_is_there (Some node) h = refl

pub listed_last : {A : Type 0} (front : List (String A)) (text : String A) (path : List ℕ) → IsListed (front ++ text ∷ []) path → IsListed front path ⊎ (string_bytes text ≡ path)
listed_last {A} [] text path (inl same) = inr same
listed_last {A} [] text path (inr h) = absurd h
listed_last {A} (first ∷ front) text path (inl same) = inl (inl same)
listed_last {A} (first ∷ front) text path (inr h) = elim (listed_last front text path h) [
  | inl listed ↦ inl (inr listed)
  | inr same ↦ inr same
]

pub listed_none : {A : Type 0} (paths : List (String A)) (path : List ℕ) → length paths ≡ 0 → IsListed paths path → ⊥
listed_none {A} [] path none listed = listed
listed_none {A} (first ∷ paths) path none listed = omega arith
