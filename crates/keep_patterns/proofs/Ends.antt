-- How a fit goes on at the end of both: one piece more, and one element more.
use Rattle.std.proofs.Common.{◌≡◌, ℕ, Bool, true, false, not, ◌&&◌, ◌||◌, cond, List, [], ◌∷◌, ◌++◌, refl, sym, ap, ap₂, ◌∙◌}
use Rattle.keep_patterns.specs.Matching.{any_tail, fits, is_deep, is_nil, matches, matches_name}
use Rattle.keep_patterns.specs.declared.pattern.Component.{Component}
use Rattle.keep_patterns.specs.declared.pattern.Component.TheVariants.{AnyDepth, Name}
use Rattle.keep_patterns.proofs.Tails.{fits_many, fits_one}

-- ---- tests

and_true : (a : Bool) → (a && true) ≡ a
and_true true = refl
and_true false = refl

pub and_false : (a : Bool) → (a && false) ≡ false
and_false true = refl
and_false false = refl

or_true : (a : Bool) → (a || true) ≡ true
or_true true = refl
or_true false = refl

or_false : (a : Bool) → (a || false) ≡ a
or_false true = refl
or_false false = refl

and_group : (a b c : Bool) → (a && (b && c)) ≡ ((a && b) && c)
and_group true b c = refl
and_group false b c = refl

and_over : (a b c : Bool) → (a && (b || c)) ≡ ((a && b) || (a && c))
and_over true b c = refl
and_over false b c = refl

over_and : (a b c : Bool) → ((a && c) || (b && c)) ≡ ((a || b) && c)
over_and true b true = refl
over_and true true false = refl
over_and true false false = refl
over_and false b c = refl

or_middle : (a b c d : Bool) → ((a || b) || (c || d)) ≡ ((a || c) || (b || d))
or_middle true b c d = refl
or_middle false true true d = refl
or_middle false true false d = refl
or_middle false false c d = refl

cond_false : (b : Bool) → cond b false false ≡ false
cond_false true = refl
cond_false false = refl

-- ---- lists

module _ {A : Type 0} where
  more_is_some : (xs : List A) (x : A) → is_nil (xs ++ x ∷ []) ≡ false
  more_is_some [] x = refl
  more_is_some (y ∷ ys) x = refl

  pub has_end : (xs : List A) → any_tail is_nil xs ≡ true
  has_end [] = refl
  has_end (x ∷ xs) = has_end xs

  tails_one : (t s : List A → Bool) (o : Bool) (x : A) → ((xs : List A) → t (xs ++ x ∷ []) ≡ (s xs && o)) → t [] ≡ false
      → (xs : List A) → any_tail t (xs ++ x ∷ []) ≡ (any_tail s xs && o)
  tails_one t s o x each none [] = ap₂ (λ a b. a || b) (each []) none ∙ or_false (s [] && o)
  tails_one t s o x each none (y ∷ ys) =
      ap₂ (λ a b. a || b) (each (y ∷ ys)) (tails_one t s o x each none ys) ∙ over_and (s (y ∷ ys)) (any_tail s ys) o

  tails_many : (t s : List A → Bool) (x : A) → ((xs : List A) → t (xs ++ x ∷ []) ≡ (s (xs ++ x ∷ []) || t xs)) → t [] ≡ s []
      → (xs : List A) → any_tail t (xs ++ x ∷ []) ≡ (any_tail s (xs ++ x ∷ []) || any_tail t xs)
  tails_many t s x each none [] =
      ap (λ a. a || t []) (each [] ∙ ap (λ b. s (x ∷ []) || b) none)
  tails_many t s x each none (y ∷ ys) =
      ap₂ (λ a b. a || b) (each (y ∷ ys)) (tails_many t s x each none ys)
      ∙ or_middle (s (y ∷ ys ++ x ∷ [])) (t (y ∷ ys)) (any_tail s (ys ++ x ∷ [])) (any_tail t ys)

module _ {P A : Type 0} (many : P → Bool) (one : P → A → Bool) where
  -- nothing is left for a piece that takes one element
  nothing_for_one : (ps : List P) (p : P) → many p ≡ false → fits many one (ps ++ p ∷ []) [] ≡ false
  nothing_for_one [] p m = fits_one many one p [] [] m
  nothing_for_one (q ∷ qs) p m =
      ap (λ b. cond (many q) b false) (nothing_for_one qs p m) ∙ cond_false (many q)

  nothing_for_many : (ps : List P) (p : P) → many p ≡ true → fits many one (ps ++ p ∷ []) [] ≡ fits many one ps []
  nothing_for_many [] p m = fits_many many one p [] [] m
  nothing_for_many (q ∷ qs) p m = ap (λ b. cond (many q) b false) (nothing_for_many qs p m)

  -- the last piece takes the last element
  one_behind : (q : P) (qs : List P) (p : P) (x : A) → many p ≡ false → ((ys : List A) → fits many one (qs ++ p ∷ []) (ys ++ x ∷ []) ≡ (fits many one qs ys && one p x))
      → (b : Bool) → many q ≡ b → (ys : List A) → fits many one (q ∷ qs ++ p ∷ []) (ys ++ x ∷ []) ≡ (fits many one (q ∷ qs) ys && one p x)
  one_behind q qs p x m after true is ys =
      fits_many many one q (qs ++ p ∷ []) (ys ++ x ∷ []) is
      ∙ tails_one (fits many one (qs ++ p ∷ [])) (fits many one qs) (one p x) x after (nothing_for_one qs p m) ys
      ∙ ap (λ b. b && one p x) (sym (fits_many many one q qs ys is))
  one_behind q qs p x m after false is [] =
      fits_one many one q (qs ++ p ∷ []) (x ∷ []) is
      ∙ ap (λ b. one q x && b) (nothing_for_one qs p m) ∙ and_false (one q x)
      ∙ ap (λ b. b && one p x) (sym (fits_one many one q qs [] is))
  one_behind q qs p x m after false is (y ∷ ys) =
      fits_one many one q (qs ++ p ∷ []) (y ∷ ys ++ x ∷ []) is
      ∙ ap (λ b. one q y && b) (after ys) ∙ and_group (one q y) (fits many one qs ys) (one p x)
      ∙ ap (λ b. b && one p x) (sym (fits_one many one q qs (y ∷ ys) is))

  fits_end_one : (ps : List P) (p : P) (xs : List A) (x : A) → many p ≡ false
      → fits many one (ps ++ p ∷ []) (xs ++ x ∷ []) ≡ (fits many one ps xs && one p x)
  fits_end_one [] p [] x m = fits_one many one p [] (x ∷ []) m ∙ and_true (one p x)
  fits_end_one [] p (y ∷ ys) x m =
      fits_one many one p [] (y ∷ ys ++ x ∷ []) m ∙ ap (λ b. one p y && b) (more_is_some ys x) ∙ and_false (one p y)
  fits_end_one (q ∷ qs) p xs x m = one_behind q qs p x m (λ ys. fits_end_one qs p ys x m) (many q) refl xs

  -- the last piece takes the last element beside others, or nothing
  many_behind : (q : P) (qs : List P) (p : P) (x : A) → many p ≡ true
      → ((ys : List A) → fits many one (qs ++ p ∷ []) (ys ++ x ∷ []) ≡ (fits many one qs (ys ++ x ∷ []) || fits many one (qs ++ p ∷ []) ys))
      → (b : Bool) → many q ≡ b → (ys : List A)
      → fits many one (q ∷ qs ++ p ∷ []) (ys ++ x ∷ []) ≡ (fits many one (q ∷ qs) (ys ++ x ∷ []) || fits many one (q ∷ qs ++ p ∷ []) ys)
  many_behind q qs p x m after true is ys =
      fits_many many one q (qs ++ p ∷ []) (ys ++ x ∷ []) is
      ∙ tails_many (fits many one (qs ++ p ∷ [])) (fits many one qs) x after (nothing_for_many qs p m) ys
      ∙ ap₂ (λ a b. a || b) (sym (fits_many many one q qs (ys ++ x ∷ []) is)) (sym (fits_many many one q (qs ++ p ∷ []) ys is))
  many_behind q qs p x m after false is [] =
      fits_one many one q (qs ++ p ∷ []) (x ∷ []) is
      ∙ ap (λ b. one q x && b) (nothing_for_many qs p m)
      ∙ sym (or_false (one q x && fits many one qs []))
      ∙ ap₂ (λ a b. a || b) (sym (fits_one many one q qs (x ∷ []) is)) (sym (fits_one many one q (qs ++ p ∷ []) [] is))
  many_behind q qs p x m after false is (y ∷ ys) =
      fits_one many one q (qs ++ p ∷ []) (y ∷ ys ++ x ∷ []) is
      ∙ ap (λ b. one q y && b) (after ys)
      ∙ and_over (one q y) (fits many one qs (ys ++ x ∷ [])) (fits many one (qs ++ p ∷ []) ys)
      ∙ ap₂ (λ a b. a || b) (sym (fits_one many one q qs (y ∷ ys ++ x ∷ []) is)) (sym (fits_one many one q (qs ++ p ∷ []) (y ∷ ys) is))

  fits_end_many : (ps : List P) (p : P) (xs : List A) (x : A) → many p ≡ true
      → fits many one (ps ++ p ∷ []) (xs ++ x ∷ []) ≡ (fits many one ps (xs ++ x ∷ []) || fits many one (ps ++ p ∷ []) xs)
  fits_end_many [] p xs x m =
      all (xs ++ x ∷ []) ∙ sym (or_true (is_nil (xs ++ x ∷ []))) ∙ ap (λ b. is_nil (xs ++ x ∷ []) || b) (sym (all xs))
    where
      all : (ys : List A) → fits many one (p ∷ []) ys ≡ true
      all ys = fits_many many one p [] ys m ∙ has_end ys
  fits_end_many (q ∷ qs) p xs x m = many_behind q qs p x m (λ ys. fits_end_many qs p ys x m) (many q) refl xs

-- ---- patterns

-- one component more, of a path that is one name longer
pub matches_more : (anchored : Bool) (cs : List Component) (c : Component) (path : List (List ℕ)) (name : List ℕ)
    → cond (is_deep c) (matches anchored cs (path ++ name ∷ []) || matches anchored (cs ++ c ∷ []) path) (matches anchored cs path && matches_name c name)
    ≡ matches anchored (cs ++ c ∷ []) (path ++ name ∷ [])
matches_more true cs AnyDepth path name = sym (fits_end_many is_deep matches_name cs AnyDepth path name refl)
matches_more true cs (Name letters) path name = sym (fits_end_one is_deep matches_name cs (Name letters) path name refl)
matches_more false cs AnyDepth path name = sym (fits_end_many is_deep matches_name (AnyDepth ∷ cs) AnyDepth path name refl)
matches_more false cs (Name letters) path name = sym (fits_end_one is_deep matches_name (AnyDepth ∷ cs) (Name letters) path name refl)

-- no component, of a path that is one name longer
pub matches_none : (anchored : Bool) (path : List (List ℕ)) (name : List ℕ)
    → (matches anchored [] path && not anchored) ≡ matches anchored [] (path ++ name ∷ [])
matches_none true path name = and_false (is_nil path) ∙ sym (more_is_some path name)
matches_none false path name = and_true (any_tail is_nil path) ∙ has_end path ∙ sym (has_end (path ++ name ∷ []))

-- at the root
pub matches_root : (anchored : Bool) (cs : List Component) (c : Component)
    → cond (is_deep c) (matches anchored cs []) false ≡ matches anchored (cs ++ c ∷ []) []
matches_root true cs AnyDepth = sym (nothing_for_many is_deep matches_name cs AnyDepth refl)
matches_root true cs (Name letters) = sym (nothing_for_one is_deep matches_name cs (Name letters) refl)
matches_root false cs AnyDepth = sym (nothing_for_many is_deep matches_name (AnyDepth ∷ cs) AnyDepth refl)
matches_root false cs (Name letters) = sym (nothing_for_one is_deep matches_name (AnyDepth ∷ cs) (Name letters) refl)

pub nothing_at_root : (anchored : Bool) → matches anchored [] [] ≡ true
nothing_at_root true = refl
nothing_at_root false = refl
