-- Loops that read each value of a list: what is read so far, and then what the rest gives, is what all gives.
use Rattle.std.proofs.Common.{◌≡◌, ℕ, ◌+◌, ◌<◌, ◌≤◌, List, [], ◌∷◌, ◌++◌, length, map, drop, get_or, Option, None, Some, option_map, option_and_then, refl, sym, ap, ◌∙◌, append_assoc, append-nil}
use Rattle.std.proofs.lemmas.List.{drop_more, drop_all}
use Rattle.keep_docs.specs.Lists.{each}

module _ {V A B : Type 0} (view : V → A) (read : A → Option B) where
  -- `done` was read of the first i values
  abbrev pub ReadUpTo : List V → ℕ → List B → Type 0
  ReadUpTo all i done = each read (map view all) ≡ option_map (λ rest. done ++ rest) (each read (map view (drop i all)))

  pub each_start : (all : List V) → ReadUpTo all 0 []
  each_start all = kept (each read (map view all))
    where
      kept : (found : Option (List B)) → found ≡ option_map (λ rest. [] ++ rest) found
      kept None = refl
      kept (Some ys) = refl

  here : (all : List V) (i : ℕ) (v : V) → i < length all → v ≡ get_or all i v → drop i all ≡ v ∷ drop (i + 1) all
  here all i v within is = drop_more all i v within ∙ ap (λ x. x ∷ drop (i + 1) all) (sym is)

  -- one more value is read
  pub each_next : (all : List V) (i : ℕ) (done : List B) (v : V) (y : B) → ReadUpTo all i done → i < length all → v ≡ get_or all i v → read (view v) ≡ Some y
      → ReadUpTo all (i + 1) (done ++ y ∷ [])
  each_next all i done v y so_far within is found =
      so_far ∙ ap (λ vs. option_map (λ rest. done ++ rest) (each read (map view vs))) (here all i v within is)
      ∙ ap (λ o. option_map (λ rest. done ++ rest) (option_and_then (λ z. option_map (λ zs. z ∷ zs) (each read (map view (drop (i + 1) all)))) o)) found
      ∙ moved (each read (map view (drop (i + 1) all)))
    where
      moved : (o : Option (List B)) → option_map (λ rest. done ++ rest) (option_map (λ zs. y ∷ zs) o) ≡ option_map (λ rest. (done ++ y ∷ []) ++ rest) o
      moved None = refl
      moved (Some zs) = ap (λ l. Some l) (sym (append_assoc done (y ∷ []) zs))

  -- a value that isn't read: the list isn't
  pub each_refused : (all : List V) (i : ℕ) (done : List B) (v : V) → ReadUpTo all i done → i < length all → v ≡ get_or all i v → read (view v) ≡ None → each read (map view all) ≡ None
  each_refused all i done v so_far within is none =
      so_far ∙ ap (λ vs. option_map (λ rest. done ++ rest) (each read (map view vs))) (here all i v within is)
      ∙ ap (λ o. option_map (λ rest. done ++ rest) (option_and_then (λ z. option_map (λ zs. z ∷ zs) (each read (map view (drop (i + 1) all)))) o)) none

  -- all were read
  pub each_end : (all : List V) (i : ℕ) (done : List B) → ReadUpTo all i done → length all ≤ i → each read (map view all) ≡ Some done
  each_end all i done so_far past =
      so_far ∙ ap (λ vs. option_map (λ rest. done ++ rest) (each read (map view vs))) (drop_all i all past) ∙ ap (λ l. Some l) (append-nil done)
