-- What stands after the steps of an act.
use Rattle.std.proofs.Common.{◌≡◌, ◌≢◌, ℕ, true, inl, inr, List, ◌∷◌, ◌++◌, Option, Some, None, Result, Ok, Err, IsTrue, refl, sym, ap, ◌∙◌, subst, append_assoc}
use Rattle.std.proofs.lemmas.Bool.{false≢true}
use Rattle.std.specs.Result.{IsErr, IsErrAnd}
use Rattle.keep_paths.specs.Folder.{LiesIn}
use Rattle.keep_files.proofs.Kept.{put_at-here, put_at-other, same_path}
use Rattle.keep_files.specs.Act.{HasFailed, Made, Removed, Renamed, Seen, Wrote}
use Rattle.keep_files.specs.Path.{LiesRightIn}
use Rattle.keep_files.specs.Stands.{HasHome, Stands, is_file, is_folder, moved, put_at}
use Rattle.keep_files.specs.declared.tree_error.TreeError.{TreeError}
use Rattle.keep_files.specs.declared.tree_error.TreeError.TheVariants.{Broken, Unknown}
use Rattle.keep_files.specs.declared.node.Node.{Node}
use Rattle.keep_files.specs.declared.node.Node.TheVariants.{Folder, File}
use Rattle.keep_keyed_folder.specs.Left.{EndsAs, IsLeft, IsPut, IsSameOrMade, IsShifted, IsWidened}

-- ---- at one path

-- two steps in turn
pub then_at : (a b d : Stands) (path q : List ℕ) → IsSameOrMade a b path q → IsSameOrMade b d path q → IsSameOrMade a d path q
then_at a b d path q (inl same) (inl again) = inl (again ∙ same)
then_at a b d path q (inl same) (inr made) = inr (made.0, sym same ∙ made.1, made.2)
then_at a b d path q (inr made) (inl again) = inr (made.0, made.1, again ∙ made.2)
then_at a b d path q (inr made) (inr twice) = absurd (cc (sym made.2 ∙ twice.1))

-- ---- what is left

pub left_then : (a b d : Stands) (path tmp : List ℕ) → IsLeft a b path tmp → IsLeft b d path tmp → IsLeft a d path tmp
left_then a b d path tmp first next q other = then_at a b d path q (first q other) (next q other)

pub widened_then : (a b d : Stands) (path : List ℕ) → IsWidened a b path → IsWidened b d path → IsWidened a d path
widened_then a b d path first next q = then_at a b d path q (first q) (next q)

pub widened_same : (a b : Stands) (path : List ℕ) → b ≡ a → IsWidened a b path
widened_same a b path same q = inl (ap (λ (s : Stands). s q) same)

pub left_widened : (a b : Stands) (path tmp : List ℕ) → IsWidened a b path → IsLeft a b path tmp
left_widened a b path tmp widened q other = widened q

-- of the file under way anything may stand
pub left_tmp : (a b : Stands) (path tmp : List ℕ) (node : Option Node) → b ≡ put_at a tmp node → IsLeft a b path tmp
left_tmp a b path tmp node is q other =
    let apart : tmp ≢ q = λ e. other (sym e) in
    inl (ap (λ (s : Stands). s q) is ∙ put_at-other a tmp node q apart)

-- a folder above a path is above what lies in it
pub lies_deeper : (path home folder : List ℕ) → LiesRightIn path home → LiesIn home folder → LiesIn path folder
lies_deeper path home folder right lies = (lies.0 ++ 47 ∷ right.0, right.2 ∙ ap (λ h. h ++ 47 ∷ right.0) lies.1 ∙ append_assoc folder (47 ∷ lies.0) (47 ∷ right.0))

pub widened_above : (a b : Stands) (path home : List ℕ) → LiesRightIn path home → IsWidened a b home → IsWidened a b path
widened_above a b path home right widened q = elim (widened q) [
  | inl same ↦ inl same
  | inr made ↦ inr (lies_deeper path home q right made.0, made.1, made.2)
]

-- the folder right above the path was made
pub widened_made : (a b : Stands) (path home : List ℕ) → LiesRightIn path home → a home ≡ None → b ≡ put_at a home (Some Folder) → IsWidened a b path
widened_made a b path home right free is q = elim (same_path home q) [
  | inl here ↦ inr (subst (LiesIn path) here (right.0, right.2), subst (λ p. a p ≡ None) here free, ap (λ (s : Stands). s q) is ∙ subst (λ p. put_at a home (Some Folder) p ≡ Some Folder) here (put_at-here a home (Some Folder)))
  | inr other ↦ inl (ap (λ (s : Stands). s q) is ∙ put_at-other a home (Some Folder) q other)
]

-- ---- where a step failed

pub left_removing : (a b : Seen) (path tmp : List ℕ) (e : TreeError) → HasFailed a (Removed tmp) e b → IsLeft a.stands b.stands path tmp
left_removing a b path tmp Broken h = left_widened a.stands b.stands path tmp (widened_same a.stands b.stands path (ap (λ (s : Seen). s.stands) h))
left_removing a b path tmp Unknown (inl h) = left_widened a.stands b.stands path tmp (widened_same a.stands b.stands path (ap (λ (s : Seen). s.stands) h))
left_removing a b path tmp Unknown (inr h) = left_tmp a.stands b.stands path tmp None (ap (λ (s : Seen). s.stands) h.1)

pub left_writing : (a b : Seen) (path tmp bytes : List ℕ) (e : TreeError) → HasFailed a (Wrote tmp bytes) e b → IsLeft a.stands b.stands path tmp
left_writing a b path tmp bytes Broken h = left_widened a.stands b.stands path tmp (widened_same a.stands b.stands path (ap (λ (s : Seen). s.stands) h))
left_writing a b path tmp bytes Unknown (inl h) = left_widened a.stands b.stands path tmp (widened_same a.stands b.stands path (ap (λ (s : Seen). s.stands) h))
left_writing a b path tmp bytes Unknown (inr h) = left_tmp a.stands b.stands path tmp (Some (File h.0)) (ap (λ (s : Seen). s.stands) h.1.1)

pub widened_making : (a b : Seen) (path home : List ℕ) (e : TreeError) → LiesRightIn path home → HasFailed a (Made home) e b → IsWidened a.stands b.stands path
widened_making a b path home Broken right h = widened_same a.stands b.stands path (ap (λ (s : Seen). s.stands) h)
widened_making a b path home Unknown right (inl h) = widened_same a.stands b.stands path (ap (λ (s : Seen). s.stands) h)
widened_making a b path home Unknown right (inr h) = widened_made a.stands b.stands path home right h.0.0 (ap (λ (s : Seen). s.stands) h.1)

-- ---- how acts end

-- what was not done may be said of each error
pub ends_undone : (A : Type 0) (r : Result A TreeError) (Done Undone : Type 0) → IsErr r → Undone → EndsAs r Done Undone
ends_undone A (Ok x) Done Undone is h = absurd (false≢true is)
ends_undone A (Err Broken) Done Undone is h = h
ends_undone A (Err Unknown) Done Undone is h = inl h

-- the file that is under way came to its path
pub put_ends : (a b d : Stands) (path bytes tmp : List ℕ) → path ≢ tmp → IsLeft a b path tmp → b tmp ≡ Some (File bytes) → d ≡ moved b tmp path → IsPut a d path bytes tmp
put_ends a b d path bytes tmp apart left there is =
    let other : tmp ≢ path = λ e. apart (sym e) in
    let put = put_at b path (b tmp) in
    record {
      file = ap (λ (s : Stands). s path) is ∙ put_at-other put tmp None path other ∙ put_at-here b path (b tmp) ∙ there;
      tmp_is_free = ap (λ (s : Stands). s tmp) is ∙ put_at-here put tmp None;
      others = λ q not_path not_tmp.
          let from_path : path ≢ q = λ e. not_path (sym e) in
          let from_tmp : tmp ≢ q = λ e. not_tmp (sym e) in
          let same : d q ≡ b q = ap (λ (s : Stands). s q) is ∙ put_at-other put tmp None q from_tmp ∙ put_at-other b path (b tmp) q from_path in
          then_at a b d path q (left q not_tmp) (inl same);
    }

pub put_failed : (A : Type 0) (r : Result A TreeError) (a : Stands) (b d : Seen) (path bytes tmp : List ℕ) (e : TreeError) → r ≡ Err e → path ≢ tmp → IsLeft a b.stands path tmp → b.stands tmp ≡ Some (File bytes)
    → HasFailed b (Renamed tmp path) e d → EndsAs r (IsPut a d.stands path bytes tmp) (IsLeft a d.stands path tmp)
put_failed A r a b d path bytes tmp Broken is apart left there h = rw is (subst (λ (s : Seen). IsLeft a s.stands path tmp) (sym h) left)
put_failed A r a b d path bytes tmp Unknown is apart left there (inl h) = rw is (inl (subst (λ (s : Seen). IsLeft a s.stands path tmp) (sym h) left))
put_failed A r a b d path bytes tmp Unknown is apart left there (inr h) = rw is (inr (put_ends a b.stands d.stands path bytes tmp apart left there (ap (λ (s : Seen). s.stands) h.1)))

pub shift_ends : (a b d : Stands) (from to : List ℕ) → from ≢ to → IsWidened a b to → b from ≡ a from → d ≡ moved b from to → IsShifted a d from to
shift_ends a b d from to apart widened still is =
    let put = put_at b to (b from) in
    record {
      file = ap (λ (s : Stands). s to) is ∙ put_at-other put from None to apart ∙ put_at-here b to (b from) ∙ still;
      gone = ap (λ (s : Stands). s from) is ∙ put_at-here put from None;
      others = λ q not_from not_to.
          let from_q : from ≢ q = λ e. not_from (sym e) in
          let to_q : to ≢ q = λ e. not_to (sym e) in
          let same : d q ≡ b q = ap (λ (s : Stands). s q) is ∙ put_at-other put from None q from_q ∙ put_at-other b to (b from) q to_q in
          then_at a b d to q (widened q) (inl same);
    }

pub shift_failed : (A : Type 0) (r : Result A TreeError) (a : Stands) (b d : Seen) (from to : List ℕ) (e : TreeError) → r ≡ Err e → from ≢ to → IsWidened a b.stands to → b.stands from ≡ a from
    → HasFailed b (Renamed from to) e d → EndsAs r (IsShifted a d.stands from to) (IsWidened a d.stands to)
shift_failed A r a b d from to Broken is apart widened still h = rw is (subst (λ (s : Seen). IsWidened a s.stands to) (sym h) widened)
shift_failed A r a b d from to Unknown is apart widened still (inl h) = rw is (inl (subst (λ (s : Seen). IsWidened a s.stands to) (sym h) widened))
shift_failed A r a b d from to Unknown is apart widened still (inr h) = rw is (inr (shift_ends a b.stands d.stands from to apart widened still (ap (λ (s : Seen). s.stands) h.1)))

-- what `?` hands on
pub handed_on : (A : Type 0) (r : Result A TreeError) (e : TreeError) → IsErrAnd r (λ x. x ≡ e) → r ≡ Err e
handed_on A (Ok x) e h = absurd h
handed_on A (Err x) e h = ap (λ y. Err y) h

-- ---- folders

pub folder_there : (node : Option Node) → is_folder node ≡ true → node ≡ Some Folder
folder_there None h = absurd (false≢true h)
folder_there (Some Folder) h = refl
folder_there (Some (File bytes)) h = absurd (false≢true h)

-- the folder right above the path stands once it was made
pub home_made : (a b : Stands) (path home : List ℕ) → LiesRightIn path home → ((folder : List ℕ) → LiesRightIn path folder → Some home ≡ Some folder) → b ≡ put_at a home (Some Folder) → HasHome b path
home_made a b path home right only is folder lies =
    let same : home ≡ folder = cc (only folder lies) in
    subst (λ p. b p ≡ Some Folder) same (ap (λ (s : Stands). s home) is ∙ put_at-here a home (Some Folder))

-- a file stays where folders were made
pub file_stays : (a b : Stands) (path q : List ℕ) → IsTrue (is_file (a q)) → IsWidened a b path → b q ≡ a q
file_stays a b path q file widened = elim (widened q) [
  | inl same ↦ same
  | inr made ↦ absurd (false≢true (sym (ap is_file made.1) ∙ file))
]
