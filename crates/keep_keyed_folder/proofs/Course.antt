-- The course of each act, wherever the program stops in it.
use Rattle.std.proofs.Common.{◌≡◌, ◌≢◌, ℕ, Bool, true, false, ◌⊎◌, inl, inr, IsTrue, Some, None, List, [], ◌∷◌, ◌++◌, refl, subst}
use Rattle.keep_files.specs.Act.{Act, CanDo, HasFailed, Made, Removed, Renamed, Seen, Wrote, done}
use Rattle.keep_files.specs.Path.{LiesRightIn}
use Rattle.keep_files.specs.Stands.{Stands, moved, put_at}
use Rattle.keep_files.specs.declared.tree_error.TreeError.{TreeError}
use Rattle.keep_files.specs.declared.node.Node.TheVariants.{Folder, File}
use Rattle.keep_keyed_folder.proofs.Left.{left_then, left_tmp, left_widened, put_ends, shift_ends, widened_above, widened_made, widened_then}
use Rattle.keep_keyed_folder.proofs.Stopping.{keeps_done, keeps_end, keeps_failed, keeps_synced, keeps_still, keeps_then, keeps_weaker}
use Rattle.keep_keyed_folder.specs.Left.{IsLeft, IsPut, IsShifted, IsTaken, IsWidened}
use Rattle.keep_keyed_folder.specs.Order.{AreSynced}
use Rattle.keep_keyed_folder.specs.Stops.{Keeps}

-- ---- folders are made

pub homed : (a b d : Seen) (path home : List ℕ) → b ≡ a → LiesRightIn path home → Keeps (λ now. IsWidened b.stands now home) b d → Keeps (λ now. IsWidened a.stands now path) a d
homed a b d path home same right h =
    let above = keeps_weaker (λ now. IsWidened b.stands now home) (λ now. IsWidened b.stands now path) b d (λ now. widened_above b.stands now path home right) h in
    subst (λ (s : Seen). Keeps (λ now. IsWidened s.stands now path) s d) same above

pub making_failed : (a b d : Seen) (path home : List ℕ) (e : TreeError) → LiesRightIn path home → Keeps (λ now. IsWidened a.stands now path) a b → HasFailed b (Made home) e d → Keeps (λ now. IsWidened a.stands now path) a d
making_failed a b d path home e right h failed =
    let P : Stands → Type 0 = λ now. IsWidened a.stands now path in
    let reached = keeps_end P a b h in
    keeps_then P a b d h (keeps_failed P b d (Made home) e failed reached reached
    (λ can. widened_then a.stands b.stands (put_at b.stands home (Some Folder)) path reached (widened_made b.stands (put_at b.stands home (Some Folder)) path home right can.0 refl)))

pub making : (a b d f : Seen) (path home : List ℕ) (s : Bool) → LiesRightIn path home → Keeps (λ now. IsWidened a.stands now path) a b → CanDo b.stands (Made home) → d ≡ done b (Made home)
    → f.stands ≡ d.stands → ((synced : List Act) × AreSynced s (home ∷ []) synced × (f.acts ≡ d.acts ++ synced)) → Keeps (λ now. IsWidened a.stands now path) a f
making a b d f path home s right h can is stands synced =
    let P : Stands → Type 0 = λ now. IsWidened a.stands now path in
    let reached = keeps_end P a b h in
    let made = keeps_then P a b d h (keeps_done P b d (Made home) is reached reached
    (widened_then a.stands b.stands (put_at b.stands home (Some Folder)) path reached (widened_made b.stands (put_at b.stands home (Some Folder)) path home right can.0 refl))) in
    keeps_then P a d f made (keeps_synced P d f home s (keeps_end P a d made) stands synced)

-- ---- a put

-- what holds in the course of a put
abbrev pub InPut : Stands → List ℕ → List ℕ → List ℕ → Stands → Type 0
InPut before path bytes tmp now = IsLeft before now path tmp ⊎ IsPut before now path bytes tmp

at_first : (before : Stands) (path bytes tmp : List ℕ) → InPut before path bytes tmp before
at_first before path bytes tmp = inl (λ q other. inl refl)

pub cleared : (a b : Seen) (path bytes tmp : List ℕ) → b ≡ done a (Removed tmp) → Keeps (InPut a.stands path bytes tmp) a b
cleared a b path bytes tmp is =
    keeps_done (InPut a.stands path bytes tmp) a b (Removed tmp) is (at_first a.stands path bytes tmp) (at_first a.stands path bytes tmp)
    (inl (left_tmp a.stands (put_at a.stands tmp None) path tmp None refl))

pub clearing_failed : (a b : Seen) (path bytes tmp : List ℕ) (e : TreeError) → HasFailed a (Removed tmp) e b → Keeps (InPut a.stands path bytes tmp) a b
clearing_failed a b path bytes tmp e failed =
    keeps_failed (InPut a.stands path bytes tmp) a b (Removed tmp) e failed (at_first a.stands path bytes tmp) (at_first a.stands path bytes tmp)
    (λ _. inl (left_tmp a.stands (put_at a.stands tmp None) path tmp None refl))

pub widened : (a b d : Seen) (path bytes tmp : List ℕ) → Keeps (InPut a.stands path bytes tmp) a b → IsLeft a.stands b.stands path tmp → Keeps (λ now. IsWidened b.stands now path) b d
    → Keeps (InPut a.stands path bytes tmp) a d
widened a b d path bytes tmp h left folders =
    keeps_then (InPut a.stands path bytes tmp) a b d h
    (keeps_weaker (λ now. IsWidened b.stands now path) (InPut a.stands path bytes tmp) b d (λ now w. inl (left_then a.stands b.stands now path tmp left (left_widened b.stands now path tmp w))) folders)

in_writing : (before now : Stands) (path bytes tmp part : List ℕ) → IsLeft before now path tmp → InPut before path bytes tmp (put_at now tmp (Some (File part)))
in_writing before now path bytes tmp part left =
    inl (left_then before now (put_at now tmp (Some (File part))) path tmp left (left_tmp now (put_at now tmp (Some (File part))) path tmp (Some (File part)) refl))

pub written : (a b d : Seen) (path bytes tmp : List ℕ) → Keeps (InPut a.stands path bytes tmp) a b → IsLeft a.stands b.stands path tmp → d ≡ done b (Wrote tmp bytes) → Keeps (InPut a.stands path bytes tmp) a d
written a b d path bytes tmp h left is =
    keeps_then (InPut a.stands path bytes tmp) a b d h
    (keeps_done (InPut a.stands path bytes tmp) b d (Wrote tmp bytes) is (inl left) (λ part. in_writing a.stands b.stands path bytes tmp part left) (in_writing a.stands b.stands path bytes tmp bytes left))

pub writing_failed : (a b d : Seen) (path bytes tmp : List ℕ) (e : TreeError) → Keeps (InPut a.stands path bytes tmp) a b → IsLeft a.stands b.stands path tmp → HasFailed b (Wrote tmp bytes) e d → Keeps (InPut a.stands path bytes tmp) a d
writing_failed a b d path bytes tmp e h left failed =
    keeps_then (InPut a.stands path bytes tmp) a b d h
    (keeps_failed (InPut a.stands path bytes tmp) b d (Wrote tmp bytes) e failed (inl left) (λ part. in_writing a.stands b.stands path bytes tmp part left) (λ _. in_writing a.stands b.stands path bytes tmp bytes left))

pub named : (a b d f : Seen) (path bytes tmp : List ℕ) (s : Bool) → Keeps (InPut a.stands path bytes tmp) a b → path ≢ tmp → IsLeft a.stands b.stands path tmp → b.stands tmp ≡ Some (File bytes) → d ≡ done b (Renamed tmp path)
    → f.stands ≡ d.stands → ((synced : List Act) × AreSynced s (path ∷ []) synced × (f.acts ≡ d.acts ++ synced)) → Keeps (InPut a.stands path bytes tmp) a f
named a b d f path bytes tmp s h apart left there is stands synced =
    let P : Stands → Type 0 = InPut a.stands path bytes tmp in
    let renamed = keeps_then P a b d h (keeps_done P b d (Renamed tmp path) is (inl left) (inl left) (inr (put_ends a.stands b.stands (moved b.stands tmp path) path bytes tmp apart left there refl))) in
    keeps_then P a d f renamed (keeps_synced P d f path s (keeps_end P a d renamed) stands synced)

pub naming_failed : (a b d : Seen) (path bytes tmp : List ℕ) (e : TreeError) → Keeps (InPut a.stands path bytes tmp) a b → path ≢ tmp → IsLeft a.stands b.stands path tmp → b.stands tmp ≡ Some (File bytes) → HasFailed b (Renamed tmp path) e d
    → Keeps (InPut a.stands path bytes tmp) a d
naming_failed a b d path bytes tmp e h apart left there failed =
    let P : Stands → Type 0 = InPut a.stands path bytes tmp in
    keeps_then P a b d h (keeps_failed P b d (Renamed tmp path) e failed (inl left) (inl left) (λ _. inr (put_ends a.stands b.stands (moved b.stands tmp path) path bytes tmp apart left there refl)))

-- ---- a shift

-- what holds in the course of a shift
abbrev pub InShift : Stands → List ℕ → List ℕ → Stands → Type 0
InShift before from to now = IsWidened before now to ⊎ IsShifted before now from to

pub shift_begun : (a b : Seen) (from to : List ℕ) → Keeps (λ now. IsWidened a.stands now to) a b → Keeps (InShift a.stands from to) a b
shift_begun a b from to h = keeps_weaker (λ now. IsWidened a.stands now to) (InShift a.stands from to) a b (λ now w. inl w) h

pub shifted_over : (a b d : Seen) (from to : List ℕ) → Keeps (λ now. IsWidened a.stands now to) a b → from ≢ to → b.stands from ≡ a.stands from → d ≡ done b (Renamed from to) → Keeps (InShift a.stands from to) a d
shifted_over a b d from to h apart still is =
    let P : Stands → Type 0 = InShift a.stands from to in
    let reached = keeps_end (λ now. IsWidened a.stands now to) a b h in
    keeps_then P a b d (shift_begun a b from to h) (keeps_done P b d (Renamed from to) is (inl reached) (inl reached) (inr (shift_ends a.stands b.stands (moved b.stands from to) from to apart reached still refl)))

pub shifting_failed : (a b d : Seen) (from to : List ℕ) (e : TreeError) → Keeps (λ now. IsWidened a.stands now to) a b → from ≢ to → b.stands from ≡ a.stands from → HasFailed b (Renamed from to) e d → Keeps (InShift a.stands from to) a d
shifting_failed a b d from to e h apart still failed =
    let P : Stands → Type 0 = InShift a.stands from to in
    let reached = keeps_end (λ now. IsWidened a.stands now to) a b h in
    keeps_then P a b d (shift_begun a b from to h) (keeps_failed P b d (Renamed from to) e failed (inl reached) (inl reached) (λ _. inr (shift_ends a.stands b.stands (moved b.stands from to) from to apart reached still refl)))

pub holders_synced : (P : Stands → Type 0) (a b d : Seen) (path : List ℕ) (was s : Bool) → Keeps P a b → d.stands ≡ b.stands → (was ≡ false → d.acts ≡ b.acts)
    → (IsTrue was → (synced : List Act) × AreSynced s (path ∷ []) synced × (d.acts ≡ b.acts ++ synced)) → Keeps P a d
holders_synced P a b d path true s h stands unsound synced = keeps_then P a b d h (keeps_synced P b d path s (keeps_end P a b h) stands (synced refl))
holders_synced P a b d path false s h stands unsound synced = keeps_then P a b d h (keeps_still P b d (keeps_end P a b h) (unsound refl) stands)

-- ---- a removal

-- what holds in the course of a removal
abbrev pub InRemoval : Stands → List ℕ → Stands → Type 0
InRemoval before path now = (now ≡ before) ⊎ IsTaken before now path

pub removed : (a b d : Seen) (path : List ℕ) (s : Bool) → b ≡ done a (Removed path) → d.stands ≡ b.stands → ((synced : List Act) × AreSynced s (path ∷ []) synced × (d.acts ≡ b.acts ++ synced)) → Keeps (InRemoval a.stands path) a d
removed a b d path s is stands synced =
    let P : Stands → Type 0 = InRemoval a.stands path in
    let gone = keeps_done P a b (Removed path) is (inl refl) (inl refl) (inr refl) in
    keeps_then P a b d gone (keeps_synced P b d path s (keeps_end P a b gone) stands synced)

pub removing_failed : (a b : Seen) (path : List ℕ) (e : TreeError) → HasFailed a (Removed path) e b → Keeps (InRemoval a.stands path) a b
removing_failed a b path e failed = keeps_failed (InRemoval a.stands path) a b (Removed path) e failed (inl refl) (inl refl) (λ _. inr refl)
