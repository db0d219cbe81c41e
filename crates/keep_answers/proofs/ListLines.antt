-- What loops over lists write: the line of each item in turn.
use Rattle.std.proofs.Common.{◌≡◌, ℕ, ◌+◌, ◌<◌, ◌≤◌, List, [], ◌∷◌, ◌++◌, ◌∙◌, get_or, map, take, drop, length, Option, Result, Err, refl, sym, ap, subst, append_assoc, append-nil, take_all, take-append-drop}
use Rattle.std.proofs.KnownBytes.{Appends-trans}
use Rattle.std.proofs.lemmas.Grind.{flat_map-append}
use Rattle.std.proofs.lemmas.List.{drop_more, take_more}
use Rattle.std.specs.Io.KnownBytes.{Appends}
use Rattle.std.specs.List.{flat_map}
use Rattle.keep_answers.proofs.KnownLemmas.{Puts-failed, Puts-last}
use Rattle.keep_answers.specs.Known.{Puts}
use Rattle.keep_answers.specs.declared.halt.Halt.{Halt}

-- the lines of what a function makes of items
pub flat_map-map : {A B C : Type 0} (f : B → List C) (g : A → B) (xs : List A) → flat_map f (map g xs) ≡ flat_map (λ x. f (g x)) xs
flat_map-map f g [] = refl
flat_map-map f g (x ∷ xs) = ap (λ l. f (g x) ++ l) (flat_map-map f g xs)

module _ {A : Type 0} (print : A → List ℕ) (xs : List A) where
  -- the lines of the items before place i were written
  abbrev pub Written : ℕ → Option (List ℕ) → Option (List ℕ) → Type 0
  Written i old new = Appends old new (flat_map print (take i xs))

  -- the next line stands behind them, and is followed by those of the items after it
  next_line : (i : ℕ) (d : A) → i < length xs → flat_map print (take (i + 1) xs) ≡ flat_map print (take i xs) ++ print (get_or xs i d)
  next_line i d within =
      ap (flat_map print) (take_more xs i d within) ∙ flat_map-append print (take i xs) (get_or xs i d ∷ [])
      ∙ ap (λ l. flat_map print (take i xs) ++ l) (append-nil (print (get_or xs i d)))

  all_lines : (i : ℕ) (d : A) → i < length xs → flat_map print xs ≡ flat_map print (take i xs) ++ (print (get_or xs i d) ++ flat_map print (drop (i + 1) xs))
  all_lines i d within =
      ap (flat_map print) (sym (take-append-drop i xs)) ∙ flat_map-append print (take i xs) (drop i xs)
      ∙ ap (λ l. flat_map print (take i xs) ++ flat_map print l) (drop_more xs i d within)

  pub Written-more : (i : ℕ) (d x : A) (a b c : Option (List ℕ)) → i < length xs → x ≡ get_or xs i d → Written i a b → Appends b c (print x) → Written (i + 1) a c
  Written-more i d x a b c within at so_far next = subst (Appends a c) (sym (next_line i d within)) (Appends-trans a b c (flat_map print (take i xs)) (print (get_or xs i d)) so_far (subst (λ y. Appends b c (print y)) at next))

  -- the next line failed
  pub Written-failed : (i : ℕ) (d x : A) (all last : List ℕ) (a b c : Option (List ℕ)) (stop : Halt) (r : Result (Unit {0}) Halt) → i < length xs → x ≡ get_or xs i d → all ≡ flat_map print xs ++ last
      → Written i a b → Puts b c (print x) (Err stop) → r ≡ Err stop → Puts a c all r
  Written-failed i d x all last a b c stop r within at is so_far next same =
      let rest = flat_map print (drop (i + 1) xs) in
      let whole : all ≡ flat_map print (take i xs) ++ (print (get_or xs i d) ++ (rest ++ last)) =
      is ∙ ap (λ l. l ++ last) (all_lines i d within) ∙ append_assoc (flat_map print (take i xs)) (print (get_or xs i d) ++ rest) last
      ∙ ap (λ l. flat_map print (take i xs) ++ l) (append_assoc (print (get_or xs i d)) rest last) in
      Puts-failed a b c all (flat_map print (take i xs)) (print (get_or xs i d)) (rest ++ last) stop r whole so_far (subst (λ y. Puts b c (print y) (Err stop)) at next) same

  -- all were written
  pub Written-all : (i : ℕ) (a b : Option (List ℕ)) → length xs ≤ i → Written i a b → Appends a b (flat_map print xs)
  Written-all i a b past so_far = subst (λ l. Appends a b (flat_map print l)) (take_all i xs past) so_far

  -- and then the last part of the answer was
  pub Written-last : (i : ℕ) (all last : List ℕ) (a b c : Option (List ℕ)) (r : Result (Unit {0}) Halt) → length xs ≤ i → all ≡ flat_map print xs ++ last → Written i a b → Puts b c last r → Puts a c all r
  Written-last i all last a b c r past is so_far h = Puts-last a b c all (flat_map print xs) last r is (Written-all i a b past so_far) h
