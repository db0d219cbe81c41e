-- What each call of the tree leaves: folders above what stands, counted failures, and its acts.
use Rattle.std.proofs.Common.{◌≡◌, ℕ, ◌≤◌, ◌⊎◌, Bool, true, false, IsTrue, inl, inr, List, [], ◌∷◌, ◌++◌, refl, sym, ap, ◌∙◌, subst, append_assoc, arith}
use Rattle.std.proofs.lemmas.Bool.{false≢true}
use Rattle.keep_shelf.specs.Shelved.{risen}
use Rattle.keep_files.proofs.Kept.{acts_keep_folders}
use Rattle.keep_files.specs.Act.{Act, CanDo, HasFailed, Made, Removed, Renamed, Seen, Synced, Wrote, done, failed}
use Rattle.keep_files.specs.Path.{IsHeldIn}
use Rattle.keep_files.specs.Stands.{IsClosed}
use Rattle.keep_files.specs.declared.tree_error.TreeError.{TreeError}
use Rattle.keep_files.specs.declared.tree_error.TreeError.TheVariants.{Broken, Unknown}
use Rattle.keep_keyed_folder.specs.Keyed.{HasFailure}
use Rattle.keep_keyed_folder.specs.Order.{AreMade, AreSynced}

-- ---- what stands lies in folders

pub closed_done : (a b : Seen) (act : Act) → CanDo a.stands act → b ≡ done a act → IsClosed a.stands → IsClosed b.stands
closed_done a b act can is closed = subst (λ (s : Seen). IsClosed s.stands) (sym is) (acts_keep_folders a.stands act can closed)

closed_same : (a b : Seen) → b ≡ failed a → IsClosed a.stands → IsClosed b.stands
closed_same a b is closed = subst (λ (s : Seen). IsClosed s.stands) (sym is) closed

closed_maybe : (a b : Seen) (act : Act) → (b ≡ failed a) ⊎ (CanDo a.stands act × (b ≡ failed (done a act))) → IsClosed a.stands → IsClosed b.stands
closed_maybe a b act (inl is) closed = closed_same a b is closed
closed_maybe a b act (inr h) closed = subst (λ (s : Seen). IsClosed s.stands) (sym h.1) (acts_keep_folders a.stands act h.0 closed)

pub closed_failed : (a b : Seen) (act : Act) (e : TreeError) → HasFailed a act e b → IsClosed a.stands → IsClosed b.stands
closed_failed a b act Broken h closed = closed_same a b h closed
closed_failed a b (Wrote path bytes) Unknown (inl h) closed = closed_same a b h closed
closed_failed a b (Wrote path bytes) Unknown (inr h) closed = closed_maybe a b (Wrote path h.0) (inr h.1) closed
closed_failed a b (Renamed from to) Unknown h closed = closed_maybe a b (Renamed from to) h closed
closed_failed a b (Removed path) Unknown h closed = closed_maybe a b (Removed path) h closed
closed_failed a b (Made path) Unknown h closed = closed_maybe a b (Made path) h closed
closed_failed a b (Synced path) Unknown h closed = closed_maybe a b (Synced path) h closed

-- ---- failures are counted

counted : (a b : Seen) (n : ℕ) → a.failures ≡ n → b.failures ≡ risen a.failures → risen n ≤ b.failures
counted a b n same is = subst (λ m. risen n ≤ m) (sym is) (subst (λ m. risen n ≤ risen m) (sym same) (omega arith))

failed_maybe : (a b : Seen) (act : Act) → (b ≡ failed a) ⊎ (CanDo a.stands act × (b ≡ failed (done a act))) → b.failures ≡ risen a.failures
failed_maybe a b act (inl is) = ap (λ (s : Seen). s.failures) is
failed_maybe a b act (inr h) = ap (λ (s : Seen). s.failures) h.1

pub failure : (a b : Seen) (act : Act) (e : TreeError) → HasFailed a act e b → b.failures ≡ risen a.failures
failure a b act Broken h = ap (λ (s : Seen). s.failures) h
failure a b (Wrote path bytes) Unknown (inl h) = ap (λ (s : Seen). s.failures) h
failure a b (Wrote path bytes) Unknown (inr h) = ap (λ (s : Seen). s.failures) h.1.1
failure a b (Renamed from to) Unknown h = failed_maybe a b (Renamed from to) h
failure a b (Removed path) Unknown h = failed_maybe a b (Removed path) h
failure a b (Made path) Unknown h = failed_maybe a b (Made path) h
failure a b (Synced path) Unknown h = failed_maybe a b (Synced path) h

-- an act failed after others that didn't
pub failed_after : (a b d : Seen) (act : Act) (e : TreeError) → b.failures ≡ a.failures → HasFailed b act e d → HasFailure a d
failed_after a b d act e same h = counted b d a.failures same (failure b d act e h)

-- ---- acts in turn

pub made_more : (made : List Act) (folder holder : List ℕ) → AreMade made → IsHeldIn folder holder → AreMade (made ++ Made folder ∷ (Synced holder ∷ []))
made_more [] folder holder h held = (held, tt)
made_more (Made first ∷ (Synced outer ∷ rest)) folder holder h held = (h.0, made_more rest folder holder h.1 held)
made_more (Made first ∷ []) folder holder h held = absurd h
made_more (Made first ∷ (Wrote path bytes ∷ rest)) folder holder h held = absurd h
made_more (Made first ∷ (Renamed from to ∷ rest)) folder holder h held = absurd h
made_more (Made first ∷ (Removed path ∷ rest)) folder holder h held = absurd h
made_more (Made first ∷ (Made path ∷ rest)) folder holder h held = absurd h
made_more (Wrote path bytes ∷ rest) folder holder h held = absurd h
made_more (Renamed from to ∷ rest) folder holder h held = absurd h
made_more (Removed path ∷ rest) folder holder h held = absurd h
made_more (Synced path ∷ rest) folder holder h held = absurd h

-- a folder's outer one was synced, where it's sound
synced_one : (path : List ℕ) (synced : List Act) → AreSynced true (path ∷ []) synced → (holder : List ℕ) × IsHeldIn path holder × (synced ≡ Synced holder ∷ [])
synced_one path [] h = absurd (false≢true (sym h))
synced_one path (Synced holder ∷ rest) h = (holder, h.0, ap (λ l. Synced holder ∷ l) h.1)
synced_one path (Wrote other bytes ∷ rest) h = absurd h
synced_one path (Renamed from to ∷ rest) h = absurd h
synced_one path (Removed other ∷ rest) h = absurd h
synced_one path (Made other ∷ rest) h = absurd h

made_acts : (a0 a1 a2 a3 a4 first synced : List Act) (made sync : Act) → a1 ≡ a0 → a2 ≡ a1 ++ first → a3 ≡ a2 ++ made ∷ [] → a4 ≡ a3 ++ synced → synced ≡ sync ∷ []
    → a4 ≡ a0 ++ (first ++ made ∷ (sync ∷ []))
made_acts a0 a1 a2 a3 a4 first synced made sync e1 e2 e3 e4 e5 = rw (e4, e3, e2, e1, e5) (simp append_assoc)

pub made_order : (a0 a1 a2 a3 a4 first synced : List Act) (home : List ℕ) (s : Bool) → s ≡ true → AreMade first → AreSynced s (home ∷ []) synced
    → a1 ≡ a0 → a2 ≡ a1 ++ first → a3 ≡ a2 ++ Made home ∷ [] → a4 ≡ a3 ++ synced → (made : List Act) × AreMade made × (a4 ≡ a0 ++ made)
made_order a0 a1 a2 a3 a4 first synced home s sound making holders_synced e1 e2 e3 e4 =
    let one = synced_one home synced (subst (λ b. AreSynced b (home ∷ []) synced) sound holders_synced) in (
      first ++ Made home ∷ (Synced one.0 ∷ []),
      made_more first home one.0 making one.1,
      made_acts a0 a1 a2 a3 a4 first synced (Made home) (Synced one.0) e1 e2 e3 e4 one.2,
    )

pub put_acts : (a0 a1 a2 a3 a4 a5 made synced : List Act) (first third fourth : Act) → a1 ≡ a0 ++ first ∷ [] → a2 ≡ a1 ++ made → a3 ≡ a2 ++ third ∷ [] → a4 ≡ a3 ++ fourth ∷ [] → a5 ≡ a4 ++ synced
    → a5 ≡ a0 ++ first ∷ (made ++ third ∷ (fourth ∷ synced))
put_acts a0 a1 a2 a3 a4 a5 made synced first third fourth e1 e2 e3 e4 e5 = rw (e5, e4, e3, e2, e1) (simp append_assoc)

-- where the first one couldn't be synced, none was
synced_less : (first second : List ℕ) (synced : List Act) (t : Bool) → t ≡ false → AreSynced false (first ∷ []) synced → AreSynced t (first ∷ (second ∷ [])) synced
synced_less first second [] t is h = is
synced_less first second (Synced holder ∷ rest) t is h = (h.0, subst (AreSynced t (second ∷ [])) (sym h.1) is)
synced_less first second (Wrote other bytes ∷ rest) t is h = absurd h
synced_less first second (Renamed from to ∷ rest) t is h = absurd h
synced_less first second (Removed other ∷ rest) t is h = absurd h
synced_less first second (Made other ∷ rest) t is h = absurd h

two_acts : (a b d first second : List Act) (sync : Act) → b ≡ a ++ first → first ≡ sync ∷ [] → d ≡ b ++ second → d ≡ a ++ sync ∷ second
two_acts a b d first second sync e1 e2 e3 = rw (e3, e1, e2) (simp append_assoc)

-- a folder is synced after another one, where that one could be
pub synced_two : (a b d : List Act) (first second : List ℕ) (s t : Bool) → ((synced : List Act) × AreSynced s (first ∷ []) synced × (b ≡ a ++ synced))
    → (s ≡ false → (d ≡ b) × (t ≡ s)) → (IsTrue s → (synced : List Act) × AreSynced t (second ∷ []) synced × (d ≡ b ++ synced))
    → (synced : List Act) × AreSynced t (first ∷ (second ∷ [])) synced × (d ≡ a ++ synced)
synced_two a b d first second true t one unsound next =
    let synced = synced_one first one.0 one.1 in
    let last = next refl in (
      Synced synced.0 ∷ last.0,
      (synced.1, last.1),
      two_acts a b d one.0 last.0 (Synced synced.0) one.2 synced.2 last.2,
    )
synced_two a b d first second false t one unsound next = (
  one.0,
  synced_less first second one.0 t (unsound refl).1 one.1,
  (unsound refl).0 ∙ one.2,
)

pub shift_acts : (a0 a1 a2 a3 made synced : List Act) (step : Act) → a1 ≡ a0 ++ made → a2 ≡ a1 ++ step ∷ [] → a3 ≡ a2 ++ synced → a3 ≡ a0 ++ (made ++ step ∷ synced)
shift_acts a0 a1 a2 a3 made synced step e1 e2 e3 = rw (e3, e2, e1) (simp append_assoc)
