-- The walk over things that stand by group, by period and by age keeps whom the count keeps.
use Rattle.std.proofs.Common.{◌≡◌, ℕ, ◌+◌, Bool, true, false, not, cond, ◌&&◌, ◌||◌, nat_lt, List, [], ◌∷◌, ◌++◌, Option, None, Some, filter, count_by, Ordering, Less, Equal, Greater, is_eq, is_lt, refl, sym, ap, ap₂, subst, ◌∙◌, append_assoc, add-zero}
use Rattle.std.proofs.lemmas.List.Folds.{list_any-append}
use Rattle.std.proofs.lemmas.List.Sums.{sum_by-append, sum_by_push}
use Rattle.std.specs.Cmp.{IsTotalOrder, tied_itself}
use Rattle.std.proofs.lemmas.Cmp.{alike_right}
use Rattle.std.specs.List.{AllByRecursion, list_any}
use Rattle.std.specs.Ordering.{ordering_reverse, ordering_then, then_cmp}
use Rattle.keep_labels.specs.Counts.{is_first_of, is_newest, later_periods}
use Rattle.keep_labels.specs.Walk.{Rises, follows}
use Rattle.keep_labels.proofs.Chosen.{chosen, put, seen_before, seen_with, takes}
use Rattle.keep_labels.proofs.Lists.{all_at, all_both, all_with, and_when, any_none, any_same, count_none, count_same, last_decides, none_passes, or_false}
use Rattle.keep_labels.proofs.Ranks.{UpTo, between, is_eq_true, then_less}

-- ---- on answers alone: of the turns, and of the ages

before_by : (o q : Ordering) → ordering_then o q ≡ Less → (is_eq o && is_lt q) ≡ is_eq o
before_by Less q h = refl
before_by Equal q h = ap is_lt h
before_by Greater q h = refl

after_by : (o q : Ordering) → ordering_then o q ≡ Less → (is_eq (ordering_reverse o) && is_lt (ordering_reverse q)) ≡ false
after_by Less q h = refl
after_by Equal q h = ap (λ r. is_lt (ordering_reverse r)) h
after_by Greater q h = refl

earlier_by : (a b : Bool) (o q : Ordering) → ordering_then o q ≡ Less → is_eq o ≡ false → (a && is_lt o && b) ≡ (a && b)
earlier_by true b Less q h apart = refl
earlier_by false b Less q h apart = refl
earlier_by a b Equal q h apart = cc
earlier_by a b Greater q h apart = cc

unlater_by : (a b : Bool) (o q : Ordering) → ordering_then o q ≡ Less → (a && is_lt (ordering_reverse o) && b) ≡ false
unlater_by true b Less q h = refl
unlater_by false b Less q h = refl
unlater_by true b Equal q h = refl
unlater_by false b Equal q h = refl
unlater_by a b Greater q h = cc

tied_by : (a b : Bool) (o : Ordering) → o ≡ Equal → (a && is_lt o && b) ≡ false
tied_by true b o h = ap (λ r. is_lt r && b) h
tied_by false b o h = refl

count_by_step : (f b : Bool) (o : Ordering) (k : ℕ) → not f ≡ b → o ≡ Equal → cond f k (k + 1) ≡ k + cond (is_eq o && b) 1 0
count_by_step true b o k h tied = sym (add-zero k) ∙ ap₂ (λ r c. k + cond (is_eq r && c) 1 0) (sym tied) h
count_by_step false b o k h tied = ap₂ (λ r c. k + cond (is_eq r && c) 1 0) (sym tied) h

-- ---- what comes before and behind

rise_split : {X : Type 0} (R : X → X → Ordering) (done : List X) (x : X) (rest : List X) → Rises R (done ++ x ∷ rest)
    → AllByRecursion (λ t. R t x ≡ Less) done × AllByRecursion (λ t. R x t ≡ Less) rest
rise_split R [] x rest h = (tt, h.0)
rise_split R (t ∷ done) x rest h =
    let tail = rise_split R done x rest h.1 in
    ((all_at (λ y. R t y ≡ Less) done x rest h.0, tail.0), tail.1)

module _ {X : Type 0} (G D N : X → X → Ordering) (g : IsTotalOrder G) (d : IsTotalOrder D) (n : IsTotalOrder N) (coarse : (t x : X) → UpTo (D t x) → UpTo (G t x)) where
  abbrev Before : X → X → Type 0
  Before t x = then_cmp D N t x ≡ Less

  -- it is the newest of its period, where none before it is of that
  newest_is : (done : List X) (x : X) (rest : List X) → AllByRecursion (λ t. Before t x) done → AllByRecursion (λ t. Before x t) rest
      → is_newest D N (done ++ x ∷ rest) x ≡ not (list_any (λ t. is_eq (D t x)) done)
  newest_is done x rest before behind =
      let p : X → Bool = λ t. is_eq (D t x) && is_lt (N t x) in
      let front : list_any p done ≡ list_any (λ t. is_eq (D t x)) done =
      any_same p (λ t. is_eq (D t x)) done (all_with (λ t. Before t x) (λ t. p t ≡ is_eq (D t x)) (λ t h. before_by (D t x) (N t x) h) done before) in
      let here : p x ≡ false = ap₂ (λ a b. is_eq a && is_lt b) (tied_itself d x) (tied_itself n x) in
      let back : list_any p rest ≡ false =
      any_none p rest (all_with (λ t. Before x t) (λ t. p t ≡ false) (λ t h. ap₂ (λ a b. is_eq a && is_lt b) (d.antisymm t x) (n.antisymm t x) ∙ after_by (D x t) (N x t) h) rest behind) in
      ap not (list_any-append p done (x ∷ rest) ∙ ap₂ (λ a b. a || b) front (ap₂ (λ a b. a || b) here back) ∙ or_false (list_any (λ t. is_eq (D t x)) done))

  -- the newest of the periods of its group, among those before it
  abbrev heads : List X → List X → X → ℕ
  heads all done x = count_by (λ t. is_eq (G t x) && is_newest D N all t) done

  -- the later periods are those of its group before it
  later_is : (all done : List X) (x : X) (rest : List X) → AllByRecursion (λ t. Before t x) done → AllByRecursion (λ t. Before x t) rest
      → list_any (λ t. is_eq (D t x)) done ≡ false
      → count_by (λ t. is_eq (G t x) && is_lt (D t x) && is_newest D N all t) (done ++ x ∷ rest) ≡ heads all done x
  later_is all done x rest before behind none =
      let q : X → Bool = λ t. is_eq (G t x) && is_lt (D t x) && is_newest D N all t in
      let front : count_by q done ≡ heads all done x =
      count_same q (λ t. is_eq (G t x) && is_newest D N all t) done
      (all_both (λ t. Before t x) (λ t. is_eq (D t x) ≡ false) (λ t. q t ≡ (is_eq (G t x) && is_newest D N all t)) (λ t h apart. earlier_by (is_eq (G t x)) (is_newest D N all t) (D t x) (N t x) h apart) done before (none_passes (λ t. is_eq (D t x)) done none)) in
      let here : q x ≡ false = tied_by (is_eq (G x x)) (is_newest D N all x) (D x x) (tied_itself d x) in
      let back : AllByRecursion (λ t. q t ≡ false) rest =
      all_with (λ t. Before x t) (λ t. q t ≡ false) (λ t h. ap (λ o. is_eq (G t x) && is_lt o && is_newest D N all t) (d.antisymm t x) ∙ unlater_by (is_eq (G t x)) (is_newest D N all t) (D x t) (N x t) h) rest behind in
      sum_by-append (λ t. cond (q t) 1 0) done (x ∷ rest) ∙ ap₂ (λ a b. a + b) front (count_none q (x ∷ rest) (here, back)) ∙ add-zero (heads all done x)

  -- where the walk stands: at the start, or behind a last one
  abbrev Stands : List X → List X → Option X → ℕ → Type 0
  Stands all done None count = done ≡ []
  Stands all done (Some l) count = (front : List X) × (done ≡ front ++ l ∷ []) × (AllByRecursion (λ t. Before t l) front) × (count ≡ heads all done l)

  -- of those before it the last decides whether one ties with it
  last_ties : (O : X → X → Ordering) (o : IsTotalOrder O) (finer : (t x : X) → Before t x → UpTo (O t x)) (front : List X) (l x : X)
      → AllByRecursion (λ t. Before t l) front → Before l x → list_any (λ t. is_eq (O t x)) (front ++ l ∷ []) ≡ is_eq (O l x)
  last_ties O o finer front l x before next =
      last_decides (λ t. is_eq (O t x)) front l
      (all_with (λ t. Before t l) (λ t. is_eq (O t x) ≡ true → is_eq (O l x) ≡ true) (λ t h tie. ap is_eq (between o t l x (finer t l h) (finer l x next) (is_eq_true (O t x) tie))) front before)

  by_turn : (t x : X) → Before t x → UpTo (D t x)
  by_turn t x h = then_less (D t x) (N t x) h

  by_group : (t x : X) → Before t x → UpTo (G t x)
  by_group t x h = coarse t x (by_turn t x h)

  -- the last one is of the period, if one before is
  fresh_is : (O : X → X → Ordering) (o : IsTotalOrder O) (finer : (t x : X) → Before t x → UpTo (O t x)) (all done : List X) (last : Option X) (count : ℕ) (x : X)
      → Stands all done last count → AllByRecursion (λ t. Before t x) done → list_any (λ t. is_eq (O t x)) done ≡ follows O last x
  fresh_is O o finer all done None count x stands before = ap (λ xs. list_any (λ t. is_eq (O t x)) xs) stands
  fresh_is O o finer all done (Some l) count x stands before =
      let next : Before l x = all_at (λ t. Before t x) stands.0 l [] (subst (λ xs. AllByRecursion (λ t. Before t x) xs) stands.1 before) in
      ap (λ xs. list_any (λ t. is_eq (O t x)) xs) stands.1 ∙ last_ties O o finer stands.0 l x stands.2 next

  seen_by : (b : Bool) (all done : List X) (l x : X) (count : ℕ) → is_eq (G l x) ≡ b → count ≡ heads all done l → list_any (λ t. is_eq (G t x)) done ≡ b
      → cond b count 0 ≡ heads all done x
  seen_by true all done l x count tie e some =
      e ∙ (λ i. count_by (λ t. is_eq (alike_right g l x t (is_eq_true (G l x) tie) i) && is_newest D N all t) done)
  seen_by false all done l x count tie e none =
      sym (count_none (λ t. is_eq (G t x) && is_newest D N all t) done (all_with (λ t. is_eq (G t x) ≡ false) (λ t. (is_eq (G t x) && is_newest D N all t) ≡ false) (λ t h. ap (λ b. b && is_newest D N all t) h) done (none_passes (λ t. is_eq (G t x)) done none)))

  seen_is : (all done : List X) (last : Option X) (count : ℕ) (x : X) → Stands all done last count → AllByRecursion (λ t. Before t x) done
      → seen_before G last count x ≡ heads all done x
  seen_is all done None count x stands before = ap (λ xs. heads all xs x) (sym stands)
  seen_is all done (Some l) count x stands before =
      seen_by (is_eq (G l x)) all done l x count refl stands.3 (fresh_is G g by_group all done (Some l) count x stands before)

  taken_by : (most : ℕ) (newest : Bool) (f : Bool) (seen later : ℕ) → not f ≡ newest → (newest ≡ true → seen ≡ later) → (not f && nat_lt seen most) ≡ (newest && nat_lt later most)
  taken_by most newest f seen later e h =
      ap (λ b. b && nat_lt seen most) e ∙ and_when newest (nat_lt seen most) (nat_lt later most) (λ is. ap (λ k. nat_lt k most) (h is))

  not_true : (b : Bool) → not b ≡ true → b ≡ false
  not_true true h = sym h
  not_true false h = refl

  -- the walk goes on with whom the count keeps of what is left
  chosen_is : (most : ℕ) (all done rest : List X) (last : Option X) (count : ℕ) → all ≡ done ++ rest → Rises (then_cmp D N) all → Stands all done last count
      → chosen G D most last count rest ≡ filter (is_first_of G D N most all) rest
  chosen_is most all done [] last count e rises stands = refl
  chosen_is most all done (x ∷ rest) last count e rises stands =
      let sides = rise_split (then_cmp D N) done x rest (subst (λ xs. Rises (then_cmp D N) xs) e rises) in
      let some : list_any (λ t. is_eq (D t x)) done ≡ follows D last x = fresh_is D d by_turn all done last count x stands sides.0 in
      let newest : not (follows D last x) ≡ is_newest D N all x = ap not (sym some) ∙ sym (newest_is done x rest sides.0 sides.1) ∙ ap (λ xs. is_newest D N xs x) (sym e) in
      let seen : seen_before G last count x ≡ heads all done x = seen_is all done last count x stands sides.0 in
      let later : is_newest D N all x ≡ true → seen_before G last count x ≡ later_periods G D N all x =
      λ is. seen ∙ sym (later_is all done x rest sides.0 sides.1 (some ∙ not_true (follows D last x) (newest ∙ is))) ∙ ap (λ xs. count_by (λ t. is_eq (G t x) && is_lt (D t x) && is_newest D N all t) xs) (sym e) in
      let taken : takes G D most last count x ≡ is_first_of G D N most all x =
      taken_by most (is_newest D N all x) (follows D last x) (seen_before G last count x) (later_periods G D N all x) newest later in
      let count_next : seen_with G D last count x ≡ heads all (done ++ x ∷ []) x =
      count_by_step (follows D last x) (is_newest D N all x) (G x x) (seen_before G last count x) newest (tied_itself g x)
      ∙ ap (λ k. k + cond (is_eq (G x x) && is_newest D N all x) 1 0) seen
      ∙ sym (sum_by_push (λ t. cond (is_eq (G t x) && is_newest D N all t) 1 0) done x) in
      ap₂ (λ b xs. put b x xs) taken
      (chosen_is most all (done ++ x ∷ []) rest (Some x) (seen_with G D last count x) (e ∙ sym (append_assoc done (x ∷ []) rest)) rises (done, refl, sides.0, count_next))

  -- of all of them the walk keeps whom the count keeps
  pub walk_keeps : (most : ℕ) (all : List X) → Rises (then_cmp D N) all → chosen G D most None 0 all ≡ filter (is_first_of G D N most all) all
  walk_keeps most all rises = chosen_is most all [] all None 0 refl rises refl
