-- What later changes make of two states that differ just where one change writes: the law under undo and redo.
use Rattle.std.proofs.Common.{◌≡◌, ℕ, Bool, true, false, cond, not, ◌&&◌, ◌||◌, List, [], ◌∷◌, ◌++◌, map, Option, Some, None, is_some, is_none, if◌then◌else◌, refl, sym, ap, ap₂, ◌∙◌}
use Rattle.std.specs.List.{list_all, list_any, find, AllByRecursion}
use Rattle.std.specs.Option.{option_map}
use Rattle.std.proofs.lemmas.List.Folds.{list_any-append}
use Rattle.keep_repo.specs.Facet.{facet_eq}
use Rattle.keep_repo.specs.declared.facet.Facet.{Facet}
use Rattle.keep_repo.proofs.Orders.{facet_eq_refl}
use Rattle.keep_change.specs.declared.change.Change.{Change}
use Rattle.keep_change.specs.Change.{Holding, Written, Asked, added, dropped, set, cleared, reversed, written, asked, is_as_written, is_as_asked, is_ready, is_met, replaced, holds_same}
use Rattle.keep_change.specs.Touch.{facets, written_facets, writes, leans_on}
use Rattle.keep_change.specs.Fold.{Numbered, first_leaning}
use Rattle.keep_change.proofs.Holdings.{fold_holding, break_holding}
use Rattle.keep_change.proofs.Records.{WritesOnce, among_reversed, ready_after, or_later, among, facets_of, RecordAt, no_record, a_record, record_at, found_all, replaced_outside, replaced_inside, taken_back_outside, taken_back_inside, ready_inside, facet_eq_symm, same_facet, and_first, and_second, and_both, or_first, or_second, or_neither, refuted, flipped_back, holds_same_equal}

-- ---- the relation

-- the two hold the same where the change doesn't write, and where it does one is filled just where the other is empty
pub record Opposed (c : Change) (s t : Holding) : Type 0 where
  pub outside : (q : Facet) → writes c q ≡ false → s q ≡ t q
  pub inside : (q : Facet) → writes c q ≡ true → is_some (s q) ≡ not (is_some (t q))

pub Opposed-symm : (c : Change) (s t : Holding) → Opposed c s t → Opposed c t s
Opposed-symm c s t o = record {
  outside = λ q e. sym (o.outside q e);
  inside = λ q e. flipped_back (is_some (s q)) (is_some (t q)) (o.inside q e);
}

-- ---- each written facet flips

-- filled after just where it is empty before
abbrev pub Flips : Written → Type 0
Flips w = is_some w.after ≡ not (is_some w.before)

all_map : {X : Type 0} (f : X → Written) → ((x : X) → Flips (f x)) → (xs : List X) → AllByRecursion Flips (map f xs)
all_map f h [] = tt
all_map f h (x ∷ xs) = (h x, all_map f h xs)

all_append : {X : Type 0} (P : X → Type 0) (xs ys : List X) → AllByRecursion P xs → AllByRecursion P ys → AllByRecursion P (xs ++ ys)
all_append P [] ys h k = k
all_append P (x ∷ xs) ys h k = (h.0, all_append P xs ys h.1 k)

pub written_flips : (c : Change) → AllByRecursion Flips (written c)
written_flips c =
    all_append Flips (map added c.adds) _ (all_map added (λ x. refl) c.adds)
    (all_append Flips (map dropped c.drops) _ (all_map dropped (λ x. refl) c.drops)
    (all_append Flips (map set c.sets) _ (all_map set (λ x. refl) c.sets) (all_map cleared (λ x. refl) c.clears)))

opposed_at : (c : Change) (h : Holding) → is_ready h c ≡ true → (q : Facet) → writes c q ≡ true → RecordAt (written c) q → is_some (h q) ≡ not (is_some (replaced (written c) h q))
opposed_at c h ready q e (no_record n a) = cc (e, a)
opposed_at c h ready q e (a_record w n a same) =
    ap is_some (ready_inside (written c) h q w ready n same)
    ∙ flipped_back (is_some w.after) (is_some w.before) (found_all Flips (λ w. facet_eq w.facet q) (written c) w (written_flips c) n)
    ∙ ap (λ o. not (is_some o)) (sym (replaced_inside (written c) h q w n))

unwritten_at : (c : Change) (h : Holding) (q : Facet) → writes c q ≡ false → RecordAt (written c) q → replaced (written c) h q ≡ h q
unwritten_at c h q e (no_record n a) = replaced_outside (written c) h q n
unwritten_at c h q e (a_record w n a same) = cc (e, a)

-- a facet that the change doesn't write holds what it held
pub unwritten : (c : Change) (h : Holding) (q : Facet) → writes c q ≡ false → replaced (written c) h q ≡ h q
unwritten c h q e = unwritten_at c h q e (record_at (written c) q)

-- before and after a change that is ready
pub opposed_after : (c : Change) (h : Holding) → is_ready h c ≡ true → Opposed c h (replaced (written c) h)
opposed_after c h ready = record {
  outside = λ q e. sym (unwritten c h q e);
  inside = λ q e. opposed_at c h ready q e (record_at (written c) q);
}

-- ---- what leaning on a change is

-- some facet of the first list is one of the second just where some facet of the second is one of the first
any_swapped : (xs ys : List Facet) → list_any (λ x. list_any (facet_eq x) ys) xs ≡ list_any (λ y. list_any (facet_eq y) xs) ys
any_swapped xs [] = none_pass xs
  where
    none_pass : (xs : List Facet) → list_any (λ x. false) xs ≡ false
    none_pass [] = refl
    none_pass (x ∷ xs) = none_pass xs
any_swapped xs (y ∷ ys) =
    any_or (λ x. facet_eq x y) (λ x. list_any (facet_eq x) ys) xs
    ∙ ap₂ ◌||◌ (any_same (λ x. facet_eq x y) (facet_eq y) (λ x. facet_eq_symm x y) xs) (any_swapped xs ys)
  where
    any_same : (p r : Facet → Bool) → ((x : Facet) → p x ≡ r x) → (xs : List Facet) → list_any p xs ≡ list_any r xs
    any_same p r h [] = refl
    any_same p r h (x ∷ xs) = ap₂ ◌||◌ (h x) (any_same p r h xs)

    or_moved : (a b c d : Bool) → ((a || b) || (c || d)) ≡ ((a || c) || (b || d))
    or_moved true b c d = refl
    or_moved false true true d = refl
    or_moved false true false d = refl
    or_moved false false c d = refl

    any_or : (p r : Facet → Bool) (xs : List Facet) → list_any (λ x. p x || r x) xs ≡ (list_any p xs || list_any r xs)
    any_or p r [] = refl
    any_or p r (x ∷ xs) = ap (λ b. (p x || r x) || b) (any_or p r xs) ∙ or_moved (p x) (r x) (list_any p xs) (list_any r xs)

pub leans_by_writes : (d c : Change) → leans_on d c ≡ list_any (writes c) (facets d)
leans_by_writes d c = any_swapped (written_facets c) (facets d)

written_free : (d c : Change) → leans_on d c ≡ false → list_any (writes c) (facets_of (written d)) ≡ false
written_free d c e = or_first _ _ (sym (list_any-append (writes c) (written_facets d) (map (λ a. a.facet) (asked d))) ∙ sym (leans_by_writes d c) ∙ e)

asked_free : (d c : Change) → leans_on d c ≡ false → list_any (writes c) (map (λ a. a.facet) (asked d)) ≡ false
asked_free d c e = or_second (list_any (writes c) (written_facets d)) _ (sym (list_any-append (writes c) (written_facets d) (map (λ a. a.facet) (asked d))) ∙ sym (leans_by_writes d c) ∙ e)

all_free : (d c : Change) → list_any (writes c) (facets_of (written d)) ≡ false → list_any (writes c) (map (λ a. a.facet) (asked d)) ≡ false → leans_on d c ≡ false
all_free d c e k = leans_by_writes d c ∙ list_any-append (writes c) (written_facets d) (map (λ a. a.facet) (asked d)) ∙ or_neither _ _ e k

-- where no listed facet passes, one that is among them doesn't
none_at : (p : Facet → Bool) (ws : List Written) (q : Facet) → list_any p (facets_of ws) ≡ false → among q ws ≡ true → p q ≡ false
none_at p [] q h e = cc e
none_at p (w ∷ ws) q h e =
    elim (facet_eq q w.facet) as (λ b. facet_eq q w.facet ≡ b → (b || among q ws) ≡ true → p q ≡ false) [
      | true ↦ λ f g. ap p ((same_facet q w.facet).0 f) ∙ or_first (p w.facet) _ h
      | false ↦ λ f g. none_at p ws q (or_second (p w.facet) _ h) g
    ] refl e

-- what a change writes, one that doesn't lean on it doesn't
pub untouched : (d c : Change) (q : Facet) → leans_on d c ≡ false → writes c q ≡ true → writes d q ≡ false
untouched d c q e k = refuted (writes d q) (λ f. cc (none_at (writes c) (written d) q (written_free d c e) f, k))

-- ---- a later change, in the two states

module _ (c : Change) (s t : Holding) (o : Opposed c s t) where
  ready_alike : (ws : List Written) → list_any (writes c) (facets_of ws) ≡ false → list_all (is_as_written s) ws ≡ list_all (is_as_written t) ws
  ready_alike [] e = refl
  ready_alike (w ∷ ws) e = ap₂ ◌&&◌
      (ap (λ x. holds_same x w.before) (o.outside w.facet (or_first (writes c w.facet) _ e)))
      (ready_alike ws (or_second (writes c w.facet) _ e))

  asked_alike : (xs : List Asked) → list_any (writes c) (map (λ a. a.facet) xs) ≡ false → list_all (is_as_asked s) xs ≡ list_all (is_as_asked t) xs
  asked_alike [] e = refl
  asked_alike (a ∷ xs) e = ap₂ ◌&&◌
      (ap (λ x. if a.filled then is_some x else is_none x) (o.outside a.facet (or_first (writes c a.facet) _ e)))
      (asked_alike xs (or_second (writes c a.facet) _ e))

  -- one that doesn't lean on c is met alike
  met_alike : (d : Change) → leans_on d c ≡ false → is_met s d ≡ is_met t d
  met_alike d e = ap₂ ◌&&◌ (ready_alike (written d) (written_free d c e)) (asked_alike (asked d) (asked_free d c e))

  filled_alike : (q : Facet) → is_some (s q) ≡ is_some (t q) → writes c q ≡ false
  filled_alike q same = refuted (writes c q) (λ e. no_flip (is_some (s q)) (is_some (t q)) same (o.inside q e))
    where
      no_flip : (a b : Bool) → a ≡ b → a ≡ not b → ⊥
      no_flip a true e k = cc (e, k)
      no_flip a false e k = cc (e, k)

  ready_both : (ws : List Written) → list_all (is_as_written s) ws ≡ true → list_all (is_as_written t) ws ≡ true → list_any (writes c) (facets_of ws) ≡ false
  ready_both [] e k = refl
  ready_both (w ∷ ws) e k = or_neither (writes c w.facet) _
      (filled_alike w.facet (ap is_some (holds_same_equal (s w.facet) w.before (and_first _ _ e) ∙ sym (holds_same_equal (t w.facet) w.before (and_first _ _ k)))))
      (ready_both ws (and_second (is_as_written s w) _ e) (and_second (is_as_written t w) _ k))

  asked_both : (xs : List Asked) → list_all (is_as_asked s) xs ≡ true → list_all (is_as_asked t) xs ≡ true → list_any (writes c) (map (λ a. a.facet) xs) ≡ false
  asked_both [] e k = refl
  asked_both (a ∷ xs) e k = or_neither (writes c a.facet) _
      (filled_alike a.facet (as_filled a.filled (is_some (s a.facet)) (and_first _ _ e) ∙ sym (as_filled a.filled (is_some (t a.facet)) (and_first _ _ k))))
      (asked_both xs (and_second (is_as_asked s a) _ e) (and_second (is_as_asked t a) _ k))
    where
      as_filled : (f x : Bool) → cond f x (not x) ≡ true → x ≡ f
      as_filled true x h = h
      as_filled false true h = cc h
      as_filled false false h = refl

  -- one that is met in both states doesn't lean on c
  met_both : (d : Change) → is_met s d ≡ true → is_met t d ≡ true → leans_on d c ≡ false
  met_both d e k = all_free d c
      (ready_both (written d) (and_first (is_ready s d) _ e) (and_first (is_ready t d) _ k))
      (asked_both (asked d) (and_second (is_ready s d) _ e) (and_second (is_ready t d) _ k))

  -- one that is met in the first state is met in the other one just where it doesn't lean on c
  pub met_opposed : (d : Change) → is_met s d ≡ true → is_met t d ≡ not (leans_on d c)
  met_opposed d e =
      elim (leans_on d c) as (λ b. leans_on d c ≡ b → is_met t d ≡ not b) [
        | true ↦ λ f. refuted (is_met t d) (λ k. cc (f, met_both d e k))
        | false ↦ λ f. sym (met_alike d f) ∙ e
      ] refl

  kept_outside : (d : Change) (q : Facet) → writes c q ≡ false → RecordAt (written d) q → replaced (written d) s q ≡ replaced (written d) t q
  kept_outside d q e (no_record n a) = replaced_outside (written d) s q n ∙ o.outside q e ∙ sym (replaced_outside (written d) t q n)
  kept_outside d q e (a_record w n a same) = replaced_inside (written d) s q w n ∙ sym (replaced_inside (written d) t q w n)

  -- and the states stay opposed
  pub opposed_kept : (d : Change) → leans_on d c ≡ false → Opposed c (replaced (written d) s) (replaced (written d) t)
  opposed_kept d e = record {
    outside = λ q f. kept_outside d q f (record_at (written d) q);
    inside = λ q f.
        ap is_some (unwritten d s q (untouched d c q e f)) ∙ o.inside q f
        ∙ ap (λ x. not (is_some x)) (sym (unwritten d t q (untouched d c q e f)));
  }

-- ---- all later changes, in the two states

-- a list without a break begins with a change that is met, and goes on without one
pub no_break : (b : Bool) (x : Option ℕ) (k : ℕ) → (if b then x else Some k) ≡ None → (b ≡ true) × (x ≡ None)
no_break true x k e = (refl, e)
no_break false x k e = cc e

pub no_leaning : (c : Change) (n : Numbered) (ns : List Numbered) → first_leaning c (n ∷ ns) ≡ None → (leans_on n.change c ≡ false) × (first_leaning c ns ≡ None)
no_leaning c n ns e =
    elim (leans_on n.change c) as (λ b. option_map (λ m. m.number) (cond b (Some n) (find (λ m. leans_on m.change c) ns)) ≡ None → (b ≡ false) × (first_leaning c ns ≡ None)) [
      | true ↦ λ f. cc f
      | false ↦ λ f. (refl, f)
    ] e

-- where the fold is defined from one state, it breaks from the other at the first change that leans on c
pub break_opposed : (c : Change) (later : List Numbered) (s t : Holding) → Opposed c s t → break_holding later s ≡ None → break_holding later t ≡ first_leaning c later
break_opposed c [] s t o e = refl
break_opposed c (n ∷ ns) s t o e =
    let met = no_break (is_met s n.change) _ n.number e in
    ap (λ b. if b then break_holding ns (replaced (written n.change) t) else Some n.number) (met_opposed c s t o n.change met.0)
    ∙ elim (leans_on n.change c) as (λ b. leans_on n.change c ≡ b → (if not b then break_holding ns (replaced (written n.change) t) else Some n.number) ≡ option_map (λ m. m.number) (cond b (Some n) (find (λ m. leans_on m.change c) ns))) [
      | true ↦ λ f. refl
      | false ↦ λ f. break_opposed c ns _ _ (opposed_kept c s t o n.change f) met.1
    ] refl

pub fold_opposed : (c : Change) (later : List Numbered) (s t : Holding) → Opposed c s t → first_leaning c later ≡ None → Opposed c (fold_holding later s) (fold_holding later t)
fold_opposed c [] s t o e = o
fold_opposed c (n ∷ ns) s t o e = let free = no_leaning c n ns e in fold_opposed c ns _ _ (opposed_kept c s t o n.change free.0) free.1

-- where none leans on c, what c writes stays
pub fold_untouched : (c : Change) (later : List Numbered) (h : Holding) (q : Facet) → first_leaning c later ≡ None → writes c q ≡ true → fold_holding later h q ≡ h q
fold_untouched c [] h q e k = refl
fold_untouched c (n ∷ ns) h q e k =
    let free = no_leaning c n ns e in
    fold_untouched c ns _ q free.1 k ∙ unwritten n.change h q (untouched n.change c q free.0 k)

-- ---- undo and redo

-- what a list of records asks stays ready where what they write stays
pub ready_kept : (g h : Holding) (ws : List Written) → ((q : Facet) → among q ws ≡ true → g q ≡ h q) → list_all (is_as_written h) ws ≡ true → list_all (is_as_written g) ws ≡ true
ready_kept g h [] same e = refl
ready_kept g h (w ∷ ws) same e = and_both (holds_same (g w.facet) w.before) _
    (ap (λ x. holds_same x w.before) (same w.facet (ap (λ b. b || among w.facet ws) (facet_eq_refl w.facet))) ∙ and_first _ _ e)
    (ready_kept g h ws (λ q f. same q (or_later (facet_eq q w.facet) _ f)) (and_second (is_as_written h w) _ e))

-- where the fold is defined with c, it breaks without it at the first change that leans on c
pub undo_break : (c : Change) (later : List Numbered) (h : Holding) → is_ready h c ≡ true → break_holding later (replaced (written c) h) ≡ None → break_holding later h ≡ first_leaning c later
undo_break c later h ready e = break_opposed c later _ h (Opposed-symm c h _ (opposed_after c h ready)) e

-- and where there is none, what it makes without c is what it makes with c, with what c wrote taken back
pub undo_fold : (c : Change) (later : List Numbered) (h : Holding) → is_ready h c ≡ true → first_leaning c later ≡ None → fold_holding later h ≡ replaced (map reversed (written c)) (fold_holding later (replaced (written c) h))
undo_fold c later h ready e = λ i q. undo_at q (record_at (written c) q) i
  where
    undo_at : (q : Facet) → RecordAt (written c) q → fold_holding later h q ≡ replaced (map reversed (written c)) (fold_holding later (replaced (written c) h)) q
    undo_at q (no_record n a) =
        (fold_opposed c later h _ (opposed_after c h ready) e).outside q a
        ∙ sym (taken_back_outside (written c) (fold_holding later (replaced (written c) h)) q n)
    undo_at q (a_record w n a same) =
        fold_untouched c later h q e a ∙ ready_inside (written c) h q w ready n same
        ∙ sym (taken_back_inside (written c) (fold_holding later (replaced (written c) h)) q w n)

-- where the fold is defined without c, it breaks with it at the first change that leans on c
pub redo_break : (c : Change) (later : List Numbered) (h : Holding) → is_ready h c ≡ true → break_holding later h ≡ None → break_holding later (replaced (written c) h) ≡ first_leaning c later
redo_break c later h ready e = break_opposed c later h _ (opposed_after c h ready) e

-- and where there is none, what it makes with c is what it makes without c, with what c writes written
pub redo_fold : (c : Change) (later : List Numbered) (h : Holding) → is_ready h c ≡ true → first_leaning c later ≡ None → fold_holding later (replaced (written c) h) ≡ replaced (written c) (fold_holding later h)
redo_fold c later h ready e = λ i q. redo_at q (record_at (written c) q) i
  where
    redo_at : (q : Facet) → RecordAt (written c) q → fold_holding later (replaced (written c) h) q ≡ replaced (written c) (fold_holding later h) q
    redo_at q (no_record n a) =
        (fold_opposed c later _ h (Opposed-symm c h _ (opposed_after c h ready)) e).outside q a
        ∙ sym (replaced_outside (written c) (fold_holding later h) q n)
    redo_at q (a_record w n a same) =
        fold_untouched c later _ q e a ∙ replaced_inside (written c) h q w n
        ∙ sym (replaced_inside (written c) (fold_holding later h) q w n)

-- c is still ready where it is put in at the end
pub redo_ready : (c : Change) (later : List Numbered) (h : Holding) → is_ready h c ≡ true → first_leaning c later ≡ None → is_ready (fold_holding later h) c ≡ true
redo_ready c later h ready e = ready_kept (fold_holding later h) h (written c) (λ q a. fold_untouched c later h q e a) ready

-- and what it wrote is still there where it is taken back at the end
pub undo_ready : (c : Change) (later : List Numbered) (h : Holding) → WritesOnce (written c) → first_leaning c later ≡ None → list_all (is_as_written (fold_holding later (replaced (written c) h))) (map reversed (written c)) ≡ true
undo_ready c later h once e =
    ready_kept (fold_holding later (replaced (written c) h)) (replaced (written c) h) (map reversed (written c))
    (λ q a. fold_untouched c later (replaced (written c) h) q e (sym (among_reversed (written c) q) ∙ a))
    (ready_after (written c) (replaced (written c) h) once (λ q w n. replaced_inside (written c) h q w n))
