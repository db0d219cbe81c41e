-- Acts keep what stands in folders.
use Rattle.std.proofs.Common.{◌≡◌, ◌≢◌, ℕ, ◌⊎◌, false, inl, inr, List, ◌∷◌, ◌++◌, codes, length, Option, Some, None, IsTrue, is_some, refl, sym, ap, ◌∙◌, subst, arith}
use Rattle.std.proofs.lemmas.Bool.{cases_Bool, false≢true}
use Rattle.std.proofs.lemmas.Bool.Decides.{not_from_Decides}
use Rattle.std.proofs.lemmas.List.{append_assoc, length-append}
use Rattle.std.proofs.lemmas.Map.{update_other, update_same}
use Rattle.std.proofs.lemmas.Slice.Eq.{bytes_eq-Decides}
use Rattle.std.specs.Str.{bytes_eq}
use Rattle.keep_paths.specs.Folder.{LiesIn}
use Rattle.keep_files.proofs.Cut.{last_slash}
use Rattle.keep_files.specs.Act.{Made, Removed, Renamed, Synced, Wrote}
use Rattle.keep_files.specs.Laws.{ActsKeepFolders}
use Rattle.keep_files.specs.Stands.{HasFolders, HasHome, IsClosed, Stands, is_file, is_folder, moved, put_at}
use Rattle.keep_files.specs.declared.node.Node.{Node}
use Rattle.keep_files.specs.declared.node.Node.TheVariants.{Folder, File}

-- two paths are one or not
pub same_path : (path other : List ℕ) → (path ≡ other) ⊎ (path ≢ other)
same_path path other = elim (cases_Bool (bytes_eq path other)) [
  | inl same ↦ inl ((bytes_eq-Decides path other).0 same)
  | inr not ↦ inr (not_from_Decides (bytes_eq path other) (bytes_eq-Decides path other) not)
]

pub put_at-here : (stands : Stands) (path : List ℕ) (node : Option Node) → put_at stands path node path ≡ node
put_at-here stands path node = update_same bytes_eq stands path node path ((bytes_eq-Decides path path).1 refl)

pub put_at-other : (stands : Stands) (path : List ℕ) (node : Option Node) (q : List ℕ) → path ≢ q → put_at stands path node q ≡ stands q
put_at-other stands path node q other =
    elim (cases_Bool (bytes_eq path q)) [
      | inl same ↦ absurd (other ((bytes_eq-Decides path q).0 same))
      | inr not ↦ update_other bytes_eq stands path node q not
    ]

-- nothing lies in itself
pub in_itself : (path : List ℕ) → LiesIn path path → ⊥
in_itself path lies = omega (arith, ap length lies.1, length-append path (codes "/" ++ lies.0))

-- where the folder right above stands, all above it do
pub all_above : (stands : Stands) (path : List ℕ) → IsClosed stands → HasHome stands path → HasFolders stands path
all_above stands path closed home folder lies = elim (last_slash lies.0) [
  | inl lacks ↦ home folder (lies.0, lacks, lies.1)
  | inr w ↦
      let cut : path ≡ (folder ++ (47 ∷ w.0)) ++ (47 ∷ w.1) = lies.1 ∙ ap (λ l. folder ++ (47 ∷ l)) w.3 ∙ sym (append_assoc folder (47 ∷ w.0) (47 ∷ w.1)) in
      let above = home (folder ++ (47 ∷ w.0)) (w.1, w.2, cut) in
      closed (folder ++ (47 ∷ w.0)) (rw above refl) folder (w.0, refl)
]

-- what is put where no folder stands lies in folders
pub put_at-closed : (stands : Stands) (path : List ℕ) (node : Option Node) → IsClosed stands → is_folder (stands path) ≡ false
    → (IsTrue (is_some node) → HasHome stands path) → IsClosed (put_at stands path node)
put_at-closed stands path node closed free home q is folder lies = elim (same_path path q) [
  | inl here ↦
      let some : IsTrue (is_some node) = subst (λ n. IsTrue (is_some n)) (put_at-here stands path node) (subst (λ p. IsTrue (is_some (put_at stands path node p))) (sym here) is) in
      let inside : LiesIn path folder = subst (λ p. LiesIn p folder) (sym here) lies in
      let apart : path ≢ folder = λ e. in_itself path (subst (LiesIn path) (sym e) inside) in
      put_at-other stands path node folder apart ∙ all_above stands path closed (home some) folder inside
  | inr other ↦
      let stood : IsTrue (is_some (stands q)) = subst (λ n. IsTrue (is_some n)) (put_at-other stands path node q other) is in
      let held = closed q stood folder lies in
      let apart : path ≢ folder = λ e. let no : is_folder (stands folder) ≡ false = subst (λ p. is_folder (stands p) ≡ false) e free in cc (rw held at no) in
      put_at-other stands path node folder apart ∙ held
]

-- a file is no folder
no_folder : (node : Option Node) → IsTrue (is_file node) → is_folder node ≡ false
no_folder None h = refl
no_folder (Some Folder) h = absurd (false≢true h)
no_folder (Some (File bytes)) h = refl

pub moved-closed : (stands : Stands) (from to : List ℕ) → IsClosed stands → from ≢ to → IsTrue (is_file (stands from)) → is_folder (stands to) ≡ false
    → HasHome stands to → IsClosed (moved stands from to)
moved-closed stands from to closed apart file free home =
    let put = put_at stands to (stands from) in
    let other : to ≢ from = λ e. apart (sym e) in
    let still : put from ≡ stands from = put_at-other stands to (stands from) from other in
    put_at-closed put from None (put_at-closed stands to (stands from) closed free (λ _. home)) (ap is_folder still ∙ no_folder (stands from) file) (λ none. absurd (false≢true none))

pub acts_keep_folders : ActsKeepFolders
acts_keep_folders stands (Wrote path bytes) can closed = put_at-closed stands path (Some (File bytes)) closed (ap is_folder can.0) (λ _. can.1)
acts_keep_folders stands (Renamed from to) can closed = moved-closed stands from to closed can.0 can.1 can.2 can.3
acts_keep_folders stands (Removed path) can closed = put_at-closed stands path None closed can (λ none. absurd (false≢true none))
acts_keep_folders stands (Made path) can closed = put_at-closed stands path (Some Folder) closed (ap is_folder can.0) (λ _. can.1)
acts_keep_folders stands (Synced path) can closed = closed
