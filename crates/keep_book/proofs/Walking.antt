-- A walk that changes each member of a list, told by what is shown of each.
use Rattle.std.proofs.Common.{◌≡◌, ◌∙◌, ℕ, ◌+◌, ◌<◌, List, ◌∷◌, ◌++◌, arith, ap, drop, get_or, length, map, set, sym, take}
use Rattle.std.proofs.lemmas.List.{drop_more, get_or-map, get_or_at, length-map, length-take, map-set}
use Rattle.std.proofs.lemmas.List.Edits.{map_over_more}

-- xs was shown of the list at first, and now its front is changed by f; none stands for what there is not
module _ {W T : Type 0} (shown : W → T) (f : T → T) (xs : List T) (now : List W) (i : ℕ) (none : W)
    (in_xs : i < length xs) (in_now : i < length now) (walked : map shown now ≡ map f (take i xs) ++ drop i xs) where
  -- what comes next
  abbrev pub next : W
  next = get_or now i none

  read : (t : T) → get_or (map shown now) i t ≡ shown next
  read t = get_or-map shown now i none t in_now

  -- it is as it was
  pub next_is : shown next ≡ get_or xs i (shown next)
  next_is =
      let front = map f (take i xs) in
      let long : length front ≡ i = length-map (take i xs) f ∙ omega (arith, length-take i xs) in
      let parts : map shown now ≡ front ++ get_or xs i (shown next) ∷ drop (i + 1) xs = walked ∙ ap (λ l. front ++ l) (drop_more xs i (shown next) in_xs) in
      sym (read (shown next)) ∙ ap (λ l. get_or l i (shown next)) parts ∙ get_or_at front _ _ (shown next) i long

  -- and once it is changed the front is longer by one
  pub walked_more : (changed : W) → shown changed ≡ f (shown next) → map shown (set now i changed) ≡ map f (take (i + 1) xs) ++ drop (i + 1) xs
  walked_more changed by_f = map-set shown now i changed ∙ ap (set (map shown now) i) by_f ∙ map_over_more f xs (map shown now) i (shown next) in_xs walked (sym (read (shown next)))
