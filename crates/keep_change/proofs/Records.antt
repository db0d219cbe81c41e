-- What the records of a change say of one facet.
use Rattle.std.proofs.Common.{subst, ◌≡◌, ℕ, ◌≤◌, Bool, true, false, cond, not, ◌&&◌, ◌||◌, List, [], ◌∷◌, map, Option, Some, None, count_by, refl, sym, ap, ◌∙◌, arith}
use Rattle.std.specs.Bool.{Decides, one_answer}
use Rattle.std.proofs.lemmas.Bool.Decides.{Decides-int_eq}
use Rattle.std.specs.List.{list_all, list_any, find, AllByRecursion}
use Rattle.std.specs.Option.{option_map, option_map_or}
use Rattle.std.proofs.lemmas.List.Sums.{sum_by-cons}
use Rattle.std.proofs.lemmas.Option.{same_Some}
use Rattle.std.proofs.lemmas.Slice.Eq.{bytes_eq-Decides}
use Rattle.keep_repo.specs.Facet.{Content, Stored, Marked, facet_eq}
use Rattle.keep_repo.specs.declared.facet.Facet.{Facet}
use Rattle.keep_repo.proofs.Orders.{facet_eq_same, facet_eq_refl}
use Rattle.keep_change.specs.Change.{Holding, Written, reversed, holds_same, is_as_written, record_of, replaced}

-- ---- tests

pub and_first : (a b : Bool) → (a && b) ≡ true → a ≡ true
and_first true b e = refl
and_first false b e = cc e

pub and_second : (a b : Bool) → (a && b) ≡ true → b ≡ true
and_second true b e = e
and_second false b e = cc e

pub and_both : (a b : Bool) → a ≡ true → b ≡ true → (a && b) ≡ true
and_both true b e h = h
and_both false b e h = cc e

pub or_first : (a b : Bool) → (a || b) ≡ false → a ≡ false
or_first true b e = cc e
or_first false b e = refl

pub or_second : (a b : Bool) → (a || b) ≡ false → b ≡ false
or_second true b e = cc e
or_second false b e = e

pub or_later : (a b : Bool) → b ≡ true → (a || b) ≡ true
or_later true b e = refl
or_later false b e = e

pub or_neither : (a b : Bool) → a ≡ false → b ≡ false → (a || b) ≡ false
or_neither true b e h = cc e
or_neither false b e h = h

-- a test that can't pass fails
pub refuted : (b : Bool) → (b ≡ true → ⊥) → b ≡ false
refuted true h = absurd (h refl)
refuted false h = refl

pub flipped_back : (a b : Bool) → a ≡ not b → b ≡ not a
flipped_back a true e = cc e
flipped_back a false e = cc e

-- ---- facets

pub same_facet : (a b : Facet) → Decides (facet_eq a b) (a ≡ b)
same_facet a b = (facet_eq_same a b, λ e. ap (facet_eq a) (sym e) ∙ facet_eq_refl a)

pub facet_eq_symm : (a b : Facet) → facet_eq a b ≡ facet_eq b a
facet_eq_symm a b = one_answer (facet_eq a b) (facet_eq b a) (same_facet a b)
    ((λ e. sym (facet_eq_same b a e)), (λ e. (same_facet b a).1 (sym e)))

-- ---- contents

pub holds_same_equal : (a b : Option Content) → holds_same a b ≡ true → a ≡ b
holds_same_equal None None e = refl
holds_same_equal None (Some y) e = cc e
holds_same_equal (Some (Stored a)) None e = cc e
holds_same_equal (Some (Stored a)) (Some (Stored b)) e = ap (λ c. Some (Stored c)) ((bytes_eq-Decides a b).0 e)
holds_same_equal (Some (Stored a)) (Some (Marked b)) e = cc e
holds_same_equal (Some (Marked a)) None e = cc e
holds_same_equal (Some (Marked a)) (Some (Stored b)) e = cc e
holds_same_equal (Some (Marked a)) (Some (Marked b)) e = ap (λ n. Some (Marked (record { moment = n }))) ((Decides-int_eq a.moment b.moment).0 e)

pub holds_same_refl : (a : Option Content) → holds_same a a ≡ true
holds_same_refl None = refl
holds_same_refl (Some (Stored a)) = (bytes_eq-Decides a a).1 refl
holds_same_refl (Some (Marked a)) = (Decides-int_eq a.moment a.moment).1 refl

pub holds_same_from : (a b : Option Content) → a ≡ b → holds_same a b ≡ true
holds_same_from a b e = ap (holds_same a) (sym e) ∙ holds_same_refl a

-- ---- records

abbrev pub facets_of : List Written → List Facet
facets_of ws = map (λ w. w.facet) ws

abbrev pub among : Facet → List Written → Bool
among q ws = list_any (facet_eq q) (facets_of ws)

-- a facet is among none of the records, or there is a first one that is its own
pub data RecordAt (ws : List Written) (q : Facet) : Type 0 where
  no_record : record_of ws q ≡ None → among q ws ≡ false → RecordAt ws q
  a_record : (w : Written) → record_of ws q ≡ Some w → among q ws ≡ true → w.facet ≡ q → RecordAt ws q

record_at_tail : (w : Written) (ws : List Written) (q : Facet) → facet_eq w.facet q ≡ false → RecordAt ws q → RecordAt (w ∷ ws) q
record_at_tail w ws q e (no_record n a) = no_record
    (ap (λ b. cond b (Some w) (record_of ws q)) e ∙ n)
    (ap (λ b. b || among q ws) (facet_eq_symm q w.facet ∙ e) ∙ a)
record_at_tail w ws q e (a_record v n a h) = a_record v
    (ap (λ b. cond b (Some w) (record_of ws q)) e ∙ n)
    (ap (λ b. b || among q ws) (facet_eq_symm q w.facet ∙ e) ∙ a) h

record_at_head : (w : Written) (ws : List Written) (q : Facet) → facet_eq w.facet q ≡ true → RecordAt (w ∷ ws) q
record_at_head w ws q e = a_record w
    (ap (λ b. cond b (Some w) (record_of ws q)) e)
    (ap (λ b. b || among q ws) (facet_eq_symm q w.facet ∙ e)) (facet_eq_same w.facet q e)

pub record_at : (ws : List Written) (q : Facet) → RecordAt ws q
record_at [] q = no_record refl refl
record_at (w ∷ ws) q =
    elim (facet_eq w.facet q) as (λ b. facet_eq w.facet q ≡ b → RecordAt (w ∷ ws) q) [
      | true ↦ record_at_head w ws q
      | false ↦ λ e. record_at_tail w ws q e (record_at ws q)
    ] refl

-- what holds of each element holds of the one that is found
pub found_all : {X : Type 0} (P : X → Type 0) (p : X → Bool) (xs : List X) (x : X) → AllByRecursion P xs → find p xs ≡ Some x → P x
found_all P p [] x h e = cc e
found_all P p (y ∷ ys) x h e =
    elim (p y) as (λ b. cond b (Some y) (find p ys) ≡ Some x → P x) [
      | true ↦ λ f. subst P (same_Some y x f) h.0
      | false ↦ λ f. found_all P p ys x h.1 f
    ] e

pub found_passes : {X : Type 0} (g p : X → Bool) (xs : List X) (x : X) → list_all g xs ≡ true → find p xs ≡ Some x → g x ≡ true
found_passes g p [] x h e = cc e
found_passes g p (y ∷ ys) x h e =
    elim (p y) as (λ b. cond b (Some y) (find p ys) ≡ Some x → g x ≡ true) [
      | true ↦ λ f. subst (λ z. g z ≡ true) (same_Some y x f) (and_first (g y) _ h)
      | false ↦ λ f. found_passes g p ys x (and_second (g y) _ h) f
    ] e

-- the record of a facet, the other way round
pub record_of-reversed : (ws : List Written) (q : Facet) → record_of (map reversed ws) q ≡ option_map reversed (record_of ws q)
record_of-reversed [] q = refl
record_of-reversed (w ∷ ws) q =
    elim (facet_eq w.facet q) as (λ b. cond b (Some (reversed w)) (record_of (map reversed ws) q) ≡ option_map reversed (cond b (Some w) (record_of ws q))) [
      | true ↦ refl
      | false ↦ record_of-reversed ws q
    ]

-- ---- what the records make of what facets hold

-- a facet that isn't among them holds what it held
pub replaced_outside : (ws : List Written) (h : Holding) (q : Facet) → record_of ws q ≡ None → replaced ws h q ≡ h q
replaced_outside ws h q e = ap (λ o. option_map_or (λ w. w.after) o (h q)) e

-- and one that is among them what its record says
pub replaced_inside : (ws : List Written) (h : Holding) (q : Facet) (w : Written) → record_of ws q ≡ Some w → replaced ws h q ≡ w.after
replaced_inside ws h q w e = ap (λ o. option_map_or (λ w. w.after) o (h q)) e

pub taken_back_outside : (ws : List Written) (h : Holding) (q : Facet) → record_of ws q ≡ None → replaced (map reversed ws) h q ≡ h q
taken_back_outside ws h q e = replaced_outside (map reversed ws) h q (record_of-reversed ws q ∙ ap (option_map reversed) e)

pub taken_back_inside : (ws : List Written) (h : Holding) (q : Facet) (w : Written) → record_of ws q ≡ Some w → replaced (map reversed ws) h q ≡ w.before
taken_back_inside ws h q w e = replaced_inside (map reversed ws) h q (reversed w) (record_of-reversed ws q ∙ ap (option_map reversed) e)

-- where all is ready, a facet holds what its record asks for
pub ready_inside : (ws : List Written) (h : Holding) (q : Facet) (w : Written) → list_all (is_as_written h) ws ≡ true → record_of ws q ≡ Some w → w.facet ≡ q → h q ≡ w.before
ready_inside ws h q w ready e same =
    ap h (sym same) ∙ holds_same_equal (h w.facet) w.before (found_passes (is_as_written h) (λ w. facet_eq w.facet q) ws w ready e)

-- what was written is taken back
pub take_back : (ws : List Written) (h : Holding) → list_all (is_as_written h) ws ≡ true → replaced (map reversed ws) (replaced ws h) ≡ h
take_back ws h ready = λ i q. take_back_at ws h ready q (record_at ws q) i
  where
    take_back_at : (ws : List Written) (h : Holding) → list_all (is_as_written h) ws ≡ true → (q : Facet) → RecordAt ws q → replaced (map reversed ws) (replaced ws h) q ≡ h q
    take_back_at ws h ready q (no_record n a) = taken_back_outside ws (replaced ws h) q n ∙ replaced_outside ws h q n
    take_back_at ws h ready q (a_record w n a same) = taken_back_inside ws (replaced ws h) q w n ∙ sym (ready_inside ws h q w ready n same)

-- ---- one record a facet

-- no two records have one facet
abbrev pub WritesOnce : List Written → Type 0
WritesOnce ws = (q : Facet) → count_by (facet_eq q) (facets_of ws) ≤ 1

pub among_reversed : (ws : List Written) (q : Facet) → among q (map reversed ws) ≡ among q ws
among_reversed [] q = refl
among_reversed (w ∷ ws) q = ap (λ b. facet_eq q w.facet || b) (among_reversed ws q)

pub none_of_count : (p : Facet → Bool) (fs : List Facet) → count_by p fs ≤ 0 → list_any p fs ≡ false
none_of_count p [] h = refl
none_of_count p (f ∷ fs) h =
    or_neither (p f) _ (refuted (p f) (λ e. absurd (omega (arith, ap {B = ℕ} (λ b. cond b 1 0) e, sum_by-cons (λ x. cond (p x) 1 0) f fs))))
    (none_of_count p fs (omega (arith, sum_by-cons (λ x. cond (p x) 1 0) f fs)))

-- the others of such a list have other facets, and one record each
pub once_tail : (w : Written) (ws : List Written) → WritesOnce (w ∷ ws) → WritesOnce ws
once_tail w ws once q = omega (arith, once q, sum_by-cons (λ x. cond (facet_eq q x) 1 0) w.facet (facets_of ws))

pub once_head : (w : Written) (ws : List Written) → WritesOnce (w ∷ ws) → among w.facet ws ≡ false
once_head w ws once = none_of_count (facet_eq w.facet) (facets_of ws)
    (omega (arith, once w.facet, sum_by-cons (λ x. cond (facet_eq w.facet x) 1 0) w.facet (facets_of ws), ap {B = ℕ} (λ b. cond b 1 0) (facet_eq_refl w.facet)))

-- each facet holds what its record says after, so that all is ready to be taken back
pub ready_after : (ws : List Written) (g : Holding) → WritesOnce ws → ((q : Facet) (w : Written) → record_of ws q ≡ Some w → g q ≡ w.after) → list_all (is_as_written g) (map reversed ws) ≡ true
ready_after [] g once same = refl
ready_after (w ∷ ws) g once same = and_both (holds_same (g w.facet) w.after) _
    (holds_same_from (g w.facet) w.after (same w.facet w (ap (λ b. cond b (Some w) (record_of ws w.facet)) (facet_eq_refl w.facet))))
    (ready_after ws g (once_tail w ws once) (λ q v n. same q v (ap (λ b. cond b (Some w) (record_of ws q)) (not_first q v n) ∙ n)))
  where
    not_first : (q : Facet) (v : Written) → record_of ws q ≡ Some v → facet_eq w.facet q ≡ false
    not_first q v n = refuted (facet_eq w.facet q) (λ e.
        elim (record_at ws w.facet) as (λ _. ⊥) [
          | no_record m a ↦ cc (m, ap (record_of ws) (facet_eq_same w.facet q e), n)
          | a_record u m a h ↦ cc (once_head w ws once, a)
        ])
