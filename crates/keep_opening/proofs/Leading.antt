-- The moves of a commit, an undo or a redo that remain lead to where all of them lead.
use Rattle.std.proofs.Common.{◌≡◌, ℕ, Bool, true, false, cond, ◌&&◌, List, [], ◌∷◌, map, Option, Some, None, refl, sym, ap, ◌∙◌, subst}
use Rattle.std.specs.List.{AllByRecursion, filter, list_all}
use Rattle.std.specs.Option.{option_map_or}
use Rattle.keep_change.specs.Change.{Written, reversed, written}
use Rattle.keep_change.specs.Form.{HasNoFacetTwice}
use Rattle.keep_change.specs.declared.change.Change.{Change}
use Rattle.keep_change.proofs.Carry.{writes_once}
use Rattle.keep_change.proofs.Records.{WritesOnce}
use Rattle.keep_moves.proofs.About.{all_apart}
use Rattle.keep_moves.proofs.Apart.{remain_after}
use Rattle.keep_moves.proofs.Listed.{commit_listed, redo_listed, undo_listed}
use Rattle.keep_moves.specs.Lists.{commit_moves, redo_moves, undo_moves}
use Rattle.keep_moves.specs.Move.{AllApart, AreApart, CanMake, Stand, finished_all, moved, moved_all, remains}
use Rattle.keep_moves.specs.declared.moves.Move.{Move}

-- ---- lists of moves

and_true : (b : Bool) → (b && true) ≡ b
and_true true = refl
and_true false = refl

same_left : (m : Move) (ms : List Move) (h : Stand) → AllByRecursion (AreApart m) ms → filter (remains (moved m h)) ms ≡ filter (remains h) ms
same_left m [] h apart = refl
same_left m (p ∷ ms) h apart =
    let one : remains (moved m h) p ≡ remains h p =
    sym (and_true (remains (moved m h) p)) ∙ remain_after m (p ∷ []) h (apart.0, tt) ∙ and_true (remains h p) in
    ap (λ b. cond b (p ∷ filter (remains (moved m h)) ms) (filter (remains (moved m h)) ms)) one
    ∙ ap (λ ns. cond (remains h p) (p ∷ ns) ns) (same_left m ms h apart.1)

pub left_leads : (ms : List Move) (h : Stand) → AllApart ms → moved_all (filter (remains h) ms) h ≡ finished_all ms h
left_leads [] h apart = refl
left_leads (m ∷ ms) h apart = by (remains h m) refl (left_leads ms h apart.1) (left_leads ms (moved m h) apart.1)
  where
    by : (b : Bool) → remains h m ≡ b → moved_all (filter (remains h) ms) h ≡ finished_all ms h
        → moved_all (filter (remains (moved m h)) ms) (moved m h) ≡ finished_all ms (moved m h)
        → moved_all (cond b (m ∷ filter (remains h) ms) (filter (remains h) ms)) h ≡ finished_all ms (cond b (moved m h) h)
    by true is stays goes = ap (λ ns. moved_all ns (moved m h)) (sym (same_left m ms h apart.0)) ∙ goes
    by false is stays goes = stays

pub all_filter : {X : Type 0} (P : X → Type 0) (p : X → Bool) (xs : List X) → AllByRecursion P xs → AllByRecursion P (filter p xs)
all_filter P p [] all = tt
all_filter P p (x ∷ xs) all = by (p x) (all_filter P p xs all.1)
  where
    by : (b : Bool) → AllByRecursion P (filter p xs) → AllByRecursion P (cond b (x ∷ filter p xs) (filter p xs))
    by true rest = (all.0, rest)
    by false rest = rest

apart_filter : (p : Move → Bool) (ms : List Move) → AllApart ms → AllApart (filter p ms)
apart_filter p [] apart = tt
apart_filter p (m ∷ ms) apart = by (p m) (apart_filter p ms apart.1)
  where
    by : (b : Bool) → AllApart (filter p ms) → AllApart (cond b (m ∷ filter p ms) (filter p ms))
    by true rest = (all_filter (AreApart m) p ms apart.0, rest)
    by false rest = rest

all_pass : (p : Move → Bool) (ms : List Move) → list_all p (filter p ms) ≡ true
all_pass p [] = refl
all_pass p (m ∷ ms) = by (p m) refl (all_pass p ms)
  where
    by : (b : Bool) → p m ≡ b → list_all p (filter p ms) ≡ true → list_all p (cond b (m ∷ filter p ms) (filter p ms)) ≡ true
    by true is rest = ap (λ a. a && list_all p (filter p ms)) is ∙ rest
    by false is rest = rest

pub left_can : (ms : List Move) (h : Stand) → AllApart ms → CanMake (filter (remains h) ms) h
left_can ms h apart = record { apart = apart_filter (remains h) ms apart; remain = all_pass (remains h) ms }

-- ---- the moves of one change use no key twice

reversed_once : (ws : List Written) → WritesOnce ws → WritesOnce (map reversed ws)
reversed_once ws h q = rw (same ws) (h q)
  where
    same : (vs : List Written) → map (λ w. w.facet) (map reversed vs) ≡ map (λ w. w.facet) vs
    same [] = refl
    same (v ∷ vs) = ap (λ fs. v.facet ∷ fs) (same vs)

pub commit_apart : (n : ℕ) (c : Change) → HasNoFacetTwice c → AllApart (commit_moves n c)
commit_apart n c once = subst AllApart (commit_listed n c) (all_apart true n (written c) (writes_once c once))

pub undo_apart : (n : ℕ) (o : Option Change) → ((c : Change) → o ≡ Some c → HasNoFacetTwice c) → AllApart (option_map_or (undo_moves n) o [])
undo_apart n None once = tt
undo_apart n (Some c) once = subst AllApart (undo_listed n c) (all_apart false n (map reversed (written c)) (reversed_once (written c) (writes_once c (once c refl))))

pub redo_apart : (n : ℕ) (o : Option Change) → ((c : Change) → o ≡ Some c → HasNoFacetTwice c) → AllApart (option_map_or (redo_moves n) o [])
redo_apart n None once = tt
redo_apart n (Some c) once = subst AllApart (redo_listed n c) (all_apart false n (written c) (writes_once c (once c refl)))
