-- A change among others: the history without it, and with it.
use Rattle.std.proofs.Common.{◌≡◌, Bool, true, false, ◌&&◌, List, [], ◌∷◌, ◌++◌, map, Some, None, if◌then◌else◌, All, refl, sym, ap, ap₂, ◌∙◌}
use Rattle.std.specs.List.{list_all}
use Rattle.std.proofs.lemmas.List.Elements.{All-weaker}
use Rattle.std.proofs.lemmas.List.Folds.{list_all-append}
use Rattle.keep_repo.specs.Repository.{Repository, held}
use Rattle.keep_change.specs.declared.change.Change.{Change}
use Rattle.keep_change.specs.Change.{Holding, Written, added, dropped, set, cleared, reversed, written, is_as_written, is_ready, is_met, replaced}
use Rattle.keep_change.specs.Fold.{Numbered, fold_of, first_break, first_leaning}
use Rattle.keep_change.specs.Form.{HasNoFacetTwice, IsWellFormed}
use Rattle.keep_change.specs.Holdings.{value_at}
use Rattle.keep_change.proofs.Holdings.{fold_holding, break_holding}
use Rattle.keep_change.specs.Law.{HaveNoFacetTwice, TakingBackRestores, UndoIsExact, RedoIsExact}
use Rattle.keep_change.specs.Result.{result_of, reverse_of}
use Rattle.keep_change.proofs.Carry.{AllWriteOnce, all_write_once, writes_once, held-result_of, held-reverse_of, held-fold_of, first_break-held, made_and_taken_back, reversed_written, same_held}
use Rattle.keep_change.proofs.Law.{no_break, undo_break, undo_fold, undo_ready, redo_break, redo_fold, redo_ready}
use Rattle.keep_change.proofs.Place.{value_at_start}
use Rattle.keep_change.proofs.Records.{WritesOnce, and_first}

-- ---- a list in two parts

fold_of-append : (ns ms : List Numbered) (r : Repository) → fold_of (ns ++ ms) r ≡ fold_of ms (fold_of ns r)
fold_of-append [] ms r = refl
fold_of-append (n ∷ ns) ms r = fold_of-append ns ms (result_of n.change r)

first_break-append : (ns ms : List Numbered) (r : Repository) → first_break ns r ≡ None → first_break (ns ++ ms) r ≡ first_break ms (fold_of ns r)
first_break-append [] ms r e = refl
first_break-append (n ∷ ns) ms r e =
    let met = no_break (is_met (held r) n.change) _ n.number e in
    ap (λ b. if b then first_break (ns ++ ms) (result_of n.change r) else Some n.number) met.0
    ∙ first_break-append ns ms (result_of n.change r) met.1

unbroken_parts : (ns ms : List Numbered) (r : Repository) → first_break (ns ++ ms) r ≡ None → (first_break ns r ≡ None) × (first_break ms (fold_of ns r) ≡ None)
unbroken_parts [] ms r e = (refl, e)
unbroken_parts (n ∷ ns) ms r e =
    let met = no_break (is_met (held r) n.change) _ n.number e in
    let rest = unbroken_parts ns ms (result_of n.change r) met.1 in
    (ap (λ b. if b then first_break ns (result_of n.change r) else Some n.number) met.0 ∙ rest.0, rest.1)

once_second : (ns ms : List Numbered) → AllWriteOnce (ns ++ ms) → AllWriteOnce ms
once_second [] ms h = h
once_second (n ∷ ns) ms h = once_second ns ms h.1

-- ---- a list of records that is ready, in another order

and_swapped : (a b : Bool) → (a && b) ≡ (b && a)
and_swapped true true = refl
and_swapped true false = refl
and_swapped false true = refl
and_swapped false false = refl

and_regrouped : (a b c : Bool) → (a && (b && c)) ≡ ((a && b) && c)
and_regrouped true b c = refl
and_regrouped false b c = refl

four_ready : (g : Written → Bool) (a b c d : List Written) → list_all g (b ++ (a ++ (d ++ c))) ≡ list_all g (a ++ (b ++ (c ++ d)))
four_ready g a b c d =
    by_parts b a d c
    ∙ ap₂ ◌&&◌ (and_swapped (list_all g b) (list_all g a)) (and_swapped (list_all g d) (list_all g c))
    ∙ sym (by_parts a b c d)
  where
    by_parts : (a b c d : List Written) → list_all g (a ++ (b ++ (c ++ d))) ≡ ((list_all g a && list_all g b) && (list_all g c && list_all g d))
    by_parts a b c d =
        list_all-append g a (b ++ (c ++ d))
        ∙ ap (λ x. list_all g a && x) (list_all-append g b (c ++ d) ∙ ap (λ x. list_all g b && x) (list_all-append g c d))
        ∙ and_regrouped (list_all g a) (list_all g b) _

-- what the reverse of a change asks is what its records ask, reversed
pub is_ready-reverse : (c : Change) (h : Holding) → is_ready h (reverse_of c) ≡ list_all (is_as_written h) (map reversed (written c))
is_ready-reverse c h =
    four_ready (is_as_written h) (map dropped c.adds) (map added c.drops) (map cleared c.sets) (map set c.clears)
    ∙ ap (list_all (is_as_written h)) (sym (reversed_written c))

-- ---- one change among others

module _ (c : Change) (later : List Numbered) (s : Repository) (once : WritesOnce (written c)) (all_once : AllWriteOnce later) where
  held-with : held (fold_of later (result_of c s)) ≡ fold_holding later (replaced (written c) (held s))
  held-with = held-fold_of later (result_of c s) all_once ∙ ap (fold_holding later) (held-result_of c once s)

  break-with : first_break later (result_of c s) ≡ break_holding later (replaced (written c) (held s))
  break-with = first_break-held later (result_of c s) all_once ∙ ap (break_holding later) (held-result_of c once s)

  without_break : is_met (held s) c ≡ true → first_break later (result_of c s) ≡ None → first_break later s ≡ first_leaning c later
  without_break met e = first_break-held later s all_once ∙ undo_break c later (held s) (and_first _ _ met) (sym break-with ∙ e)

  without_ready : first_leaning c later ≡ None → is_ready (held (fold_of later (result_of c s))) (reverse_of c) ≡ true
  without_ready e =
      ap (λ h. is_ready h (reverse_of c)) held-with ∙ is_ready-reverse c _ ∙ undo_ready c later (held s) once e

  without_made : is_met (held s) c ≡ true → first_leaning c later ≡ None → fold_of later s ≡ result_of (reverse_of c) (fold_of later (result_of c s))
  without_made met e = same_held _ _
      (held-fold_of later s all_once ∙ undo_fold c later (held s) (and_first _ _ met) e
      ∙ sym (held-reverse_of c once (fold_of later (result_of c s)) ∙ ap (replaced (map reversed (written c))) held-with))

  with_break : is_met (held s) c ≡ true → first_break later s ≡ None → first_break later (result_of c s) ≡ first_leaning c later
  with_break met e = break-with ∙ redo_break c later (held s) (and_first _ _ met) (sym (first_break-held later s all_once) ∙ e)

  with_ready : is_met (held s) c ≡ true → first_leaning c later ≡ None → is_ready (held (fold_of later s)) c ≡ true
  with_ready met e = ap (λ h. is_ready h c) (held-fold_of later s all_once) ∙ redo_ready c later (held s) (and_first _ _ met) e

  with_made : is_met (held s) c ≡ true → first_leaning c later ≡ None → fold_of later (result_of c s) ≡ result_of c (fold_of later s)
  with_made met e = same_held _ _
      (held-with ∙ redo_fold c later (held s) (and_first _ _ met) e
      ∙ sym (held-result_of c once (fold_of later s) ∙ ap (replaced (written c)) (held-fold_of later s all_once)))

  at_place : first_break later s ≡ None → value_at later (held (fold_of later s)) ≡ held s
  at_place e =
      ap (value_at later) (held-fold_of later s all_once)
      ∙ value_at_start later (held s) (sym (first_break-held later s all_once) ∙ e)

-- ---- the laws

pub taking_back_restores_lem : TakingBackRestores
taking_back_restores_lem c r once ready = made_and_taken_back c r (writes_once c once) ready

pub undo_is_exact_lem : UndoIsExact
undo_is_exact_lem earlier n later r once e =
    let c = n.change in
    let s = fold_of earlier r in
    let each = once_second earlier (n ∷ later) (all_write_once (earlier ++ n ∷ later) once) in
    let parts = unbroken_parts earlier (n ∷ later) r e in
    let met = no_break (is_met (held s) c) (first_break later (result_of c s)) n.number parts.1 in
    record {
      break = first_break-append earlier later r parts.0 ∙ without_break c later s each.0 each.1 met.0 met.1;
      ready = λ f. ap (λ x. is_ready (held x) (reverse_of c)) (fold_of-append earlier (n ∷ later) r) ∙ without_ready c later s each.0 each.1 f;
      made = λ f.
          fold_of-append earlier later r ∙ without_made c later s each.0 each.1 met.0 f
          ∙ ap (result_of (reverse_of c)) (sym (fold_of-append earlier (n ∷ later) r));
    }

pub redo_is_exact_lem : RedoIsExact
redo_is_exact_lem earlier n later r once e =
    let c = n.change in
    let s = fold_of earlier r in
    let each = once_second earlier (n ∷ later) (all_write_once (earlier ++ n ∷ later) once) in
    let parts = unbroken_parts earlier later r e in
    let place : value_at later (held (fold_of (earlier ++ later) r)) ≡ held s =
    ap (λ x. value_at later (held x)) (fold_of-append earlier later r) ∙ at_place c later s each.0 each.1 parts.1 in
    let breaks : first_break (earlier ++ n ∷ later) r ≡ (if is_met (held s) c then first_leaning c later else Some n.number) =
    first_break-append earlier (n ∷ later) r parts.0
    ∙ elim (is_met (held s) c) as (λ b. is_met (held s) c ≡ b → (if b then first_break later (result_of c s) else Some n.number) ≡ (if b then first_leaning c later else Some n.number)) [
      | true ↦ λ met. with_break c later s each.0 each.1 met parts.1
      | false ↦ λ unmet. refl
    ] refl in
    let met = λ (f : first_break (earlier ++ n ∷ later) r ≡ None). no_break (is_met (held s) c) (first_leaning c later) n.number (sym breaks ∙ f) in
    record {
      place = place;
      break = breaks ∙ ap (λ h. if is_met h c then first_leaning c later else Some n.number) (sym place);
      ready = λ f.
          ap (λ x. is_ready (held x) c) (fold_of-append earlier later r)
          ∙ with_ready c later s each.0 each.1 (met f).0 (met f).1;
      made = λ f.
          fold_of-append earlier (n ∷ later) r ∙ with_made c later s each.0 each.1 (met f).0 (met f).1
          ∙ ap (result_of c) (sym (fold_of-append earlier later r));
    }

-- changes that could be committed have no facet twice
pub once_of_well_formed : (ns : List Numbered) → All (λ n. IsWellFormed n.change) ns → HaveNoFacetTwice ns
once_of_well_formed ns h = All-weaker (λ n. IsWellFormed n.change) (λ n. HasNoFacetTwice n.change) (λ n w. w.once) ns h

-- what a change wrote is there right after it, so it can be taken back
pub ready_to_take_back : (c : Change) (r : Repository) → IsWellFormed c → is_ready (held (result_of c r)) (reverse_of c) ≡ true
ready_to_take_back c r w =
    let once = writes_once c w.once in
    ap (λ h. is_ready h (reverse_of c)) (held-result_of c once r) ∙ is_ready-reverse c _ ∙ undo_ready c [] (held r) once refl
