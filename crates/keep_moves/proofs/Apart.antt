-- Moves that have no key in common: each leaves the others as they were.
use Rattle.std.proofs.Common.{◌≡◌, Bool, true, false, cond, ◌||◌, ◌&&◌, List, [], ◌∷◌, ◌++◌, Some, None, is_some, is_none, refl, sym, ap, ◌∙◌}
use Rattle.std.specs.List.{AllByRecursion, list_all}
use Rattle.keep_change.proofs.Records.{and_first, and_second, or_first, or_later, or_second, refuted}
use Rattle.keep_shelf.specs.declared.key.Key.{Key}
use Rattle.keep_moves.specs.Laws.{AllAreMade, OneIsMade}
use Rattle.keep_moves.specs.Move.{AreApart, CanMake, Stand, finished, finished_all, key_eq, moved, remains, uses}
use Rattle.keep_moves.specs.declared.moves.Move.{Move}
use Rattle.keep_moves.specs.declared.moves.Move.TheVariants.{Put, Shift, Erase}
use Rattle.keep_moves.proofs.Keys.{key_eq_refl}

-- ---- the keys of one move

used_from : (from to : Key) → uses (Shift from to) from ≡ true
used_from from to = ap (λ b. b || key_eq from to) (key_eq_refl from)

used_to : (from to : Key) → uses (Shift from to) to ≡ true
used_to from to = or_later (key_eq to from) (key_eq to to) (key_eq_refl to)

-- what it doesn't use stays
pub outside : (m : Move) (h : Stand) (q : Key) → uses m q ≡ false → moved m h q ≡ h q
outside (Put key bytes) h q e = ap (λ b. cond b (Some bytes) (h q)) e
outside (Shift from to) h q e =
    ap (λ b. cond b None (cond (key_eq q to) (h from) (h q))) (or_first (key_eq q from) (key_eq q to) e)
    ∙ ap (λ b. cond b (h from) (h q)) (or_second (key_eq q from) (key_eq q to) e)
outside (Erase key) h q e = ap (λ b. cond b None (h q)) e

-- what it makes of its keys depends on them alone
agree : (m : Move) (g h : Stand) → ((q : Key) → uses m q ≡ true → g q ≡ h q) → (q : Key) → uses m q ≡ true → moved m g q ≡ moved m h q
agree (Put key bytes) g h same q u = ap (cond (key_eq q key) (Some bytes)) (same q u)
agree (Shift from to) g h same q u =
    ap (λ o. cond (key_eq q from) None (cond (key_eq q to) o (g q))) (same from (used_from from to))
    ∙ ap (λ o. cond (key_eq q from) None (cond (key_eq q to) (h from) o)) (same q u)
agree (Erase key) g h same q u = ap (cond (key_eq q key) None) (same q u)

-- and so does whether it remains
remains_agree : (m : Move) (g h : Stand) → ((q : Key) → uses m q ≡ true → g q ≡ h q) → remains g m ≡ remains h m
remains_agree (Put key bytes) g h same = ap is_none (same key (key_eq_refl key))
remains_agree (Shift from to) g h same =
    ap (λ o. is_some o && is_none (g to)) (same from (used_from from to))
    ∙ ap (λ o. is_some (h from) && is_none o) (same to (used_to from to))
remains_agree (Erase key) g h same = ap is_some (same key (key_eq_refl key))

-- once made it doesn't remain
made_once : (m : Move) (h : Stand) → remains (moved m h) m ≡ false
made_once (Put key bytes) h = ap (λ b. is_none (cond b (Some bytes) (h key))) (key_eq_refl key)
made_once (Shift from to) h =
    ap (λ b. is_some (cond b None (cond (key_eq from to) (h from) (h from))) && is_none (moved (Shift from to) h to)) (key_eq_refl from)
made_once (Erase key) h = ap (λ b. is_some (cond b None (h key))) (key_eq_refl key)

-- ---- two moves

pub other_way : (m p : Move) → AreApart m p → AreApart p m
other_way m p apart q u = refuted (uses m q) (λ e. both u (apart q e))
  where
    both : {b : Bool} → b ≡ true → b ≡ false → ⊥
    both t f = cc (sym t ∙ f)

-- what one uses, the other leaves
left_alone : (m p : Move) (h : Stand) → AreApart m p → (q : Key) → uses m q ≡ true → moved p h q ≡ h q
left_alone m p h apart q u = outside p h q (apart q u)

-- whether one remains, the other leaves too
remains_after : (m p : Move) (h : Stand) → AreApart m p → remains (moved p h) m ≡ remains h m
remains_after m p h apart = remains_agree m (moved p h) h (left_alone m p h apart)

-- their order doesn't matter
swapped : (m p : Move) (h : Stand) → AreApart m p → moved p (moved m h) ≡ moved m (moved p h)
swapped m p h apart = λ i q. at q (uses m q) refl i
  where
    at : (q : Key) (b : Bool) → uses m q ≡ b → moved p (moved m h) q ≡ moved m (moved p h) q
    at q true u = outside p (moved m h) q (apart q u) ∙ sym (agree m (moved p h) h (left_alone m p h apart) q u)
    at q false u = elim (uses p q) as (λ b. uses p q ≡ b → moved p (moved m h) q ≡ moved m (moved p h) q) [
      | true ↦ λ v. agree p (moved m h) h (left_alone p m h (other_way m p apart)) q v ∙ sym (outside m (moved p h) q u)
      | false ↦ λ v. outside p (moved m h) q v ∙ outside m h q u ∙ sym (outside p h q v) ∙ sym (outside m (moved p h) q u)
    ] refl

-- ---- all of them

pub remain_after : (m : Move) (ms : List Move) (h : Stand) → AllByRecursion (AreApart m) ms → list_all (remains (moved m h)) ms ≡ list_all (remains h) ms
remain_after m [] h apart = refl
remain_after m (p ∷ ms) h apart =
    ap (λ b. b && list_all (remains (moved m h)) ms) (remains_after p m h (other_way m p apart.0))
    ∙ ap (λ b. remains h p && b) (remain_after m ms h apart.1)

-- the first can be made
pub first_remains : (m : Move) (ms : List Move) (h : Stand) → CanMake (m ∷ ms) h → remains h m ≡ true
first_remains m ms h can = and_first (remains h m) (list_all (remains h) ms) can.remain

-- and then the others
pub rest_can : (m : Move) (ms : List Move) (h : Stand) → CanMake (m ∷ ms) h → CanMake ms (moved m h)
rest_can m ms h can = record {
  apart = can.apart.1;
  remain = remain_after m ms h can.apart.0 ∙ and_second (remains h m) (list_all (remains h) ms) can.remain;
}

-- ---- moves that may be made already

to_finish : (m : Move) (h : Stand) → remains h m ≡ true → finished m h ≡ moved m h
to_finish m h e = ap (λ b. cond b (moved m h) h) e

is_finished : (m : Move) (h : Stand) → remains h m ≡ false → finished m h ≡ h
is_finished m h e = ap (λ b. cond b (moved m h) h) e

-- to finish one comes to the same before another one and after it
finished_later : (m p : Move) (h : Stand) → AreApart p m → finished p (moved m h) ≡ moved m (finished p h)
finished_later m p h apart = elim (remains h p) as (λ b. remains h p ≡ b → finished p (moved m h) ≡ moved m (finished p h)) [
  | true ↦ λ e. to_finish p (moved m h) (remains_after p m h apart ∙ e) ∙ sym (swapped p m h apart) ∙ sym (ap (moved m) (to_finish p h e))
  | false ↦ λ e. is_finished p (moved m h) (remains_after p m h apart ∙ e) ∙ sym (ap (moved m) (is_finished p h e))
] refl

-- the first of a list is apart from one in it
apart_inside : (p : Move) (pre : List Move) (m : Move) (post : List Move) → AllByRecursion (AreApart p) (pre ++ m ∷ post) → AreApart p m
apart_inside p [] m post apart = apart.0
apart_inside p (n ∷ pre) m post apart = apart_inside p pre m post apart.1

still_remains : (p m : Move) (h : Stand) → AreApart m p → remains h m ≡ true → remains (finished p h) m ≡ true
still_remains p m h apart e = elim (remains h p) as (λ b. remains h p ≡ b → remains (finished p h) m ≡ true) [
  | true ↦ λ r. ap (λ g. remains g m) (to_finish p h r) ∙ remains_after m p h apart ∙ e
  | false ↦ λ r. ap (λ g. remains g m) (is_finished p h r) ∙ e
] refl

pub one_made : OneIsMade
one_made [] m post h apart e =
    ap (finished_all post) (is_finished m (moved m h) (made_once m h) ∙ sym (to_finish m h e))
one_made (p ∷ pre) m post h apart e =
    let pm : AreApart p m = apart_inside p pre m post apart.0 in
    ap (finished_all (pre ++ m ∷ post)) (finished_later m p h pm)
    ∙ one_made pre m post (finished p h) apart.1 (still_remains p m h (other_way p m pm) e)

pub all_made : AllAreMade
all_made [] h can = refl
all_made (m ∷ ms) h can =
    ap (finished_all ms) (to_finish m h (first_remains m ms h can)) ∙ all_made ms (moved m h) (rest_can m ms h can)
