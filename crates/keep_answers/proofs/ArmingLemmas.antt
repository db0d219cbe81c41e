-- What is taken out of a list, and put back or behind another.
use Rattle.std.proofs.Common.{◌≡◌, ◌∙◌, ℕ, zero, suc, List, [], ◌∷◌, map, insert, remove, slice_get, Some, ap, refl}
use Rattle.std.proofs.lemmas.Option.{none-some, slice_get-map}
use Rattle.std.specs.Option.{option_map}
use Rattle.keep_hooks.specs.Guards.{HooksData}
use Rattle.keep_answers.specs.Arming.{MovesOne}

-- put back where it was
pub put-back : {A : Type 0} (xs : List A) (i : ℕ) (x : A) → slice_get xs i ≡ Some x → insert (remove xs i) i x ≡ xs
put-back [] i x e = absurd (none-some x e)
put-back (y ∷ ys) zero x e =
    let same : x ≡ y = cc in
    ap (λ z. z ∷ ys) same
put-back (y ∷ ys) (suc i) x e = ap (λ l. y ∷ l) (put-back ys i x e)

-- what a function makes of the others
map-remove : {A B : Type 0} (f : A → B) (xs : List A) (i : ℕ) → map f (remove xs i) ≡ remove (map f xs) i
map-remove f [] zero = refl
map-remove f [] (suc i) = refl
map-remove f (y ∷ ys) zero = refl
map-remove f (y ∷ ys) (suc i) = ap (λ l. f y ∷ l) (map-remove f ys i)

-- and armed
pub moved : {A B : Type 0} (f : A → B) (arm : B → HooksData → HooksData) (xs xs' : List A) (to to' : HooksData) (i : ℕ) (x : A) → slice_get xs i ≡ Some x → xs' ≡ remove xs i → to' ≡ arm (f x) to
    → MovesOne arm i (map f xs) to (map f xs') to'
moved f arm xs xs' to to' i x there gone behind =
    (f x, slice_get-map f xs i ∙ ap (option_map f) there, ap (map f) gone ∙ map-remove f xs i, behind)
