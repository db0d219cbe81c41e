-- Two contents agree where each key of both has the same in both.
use Rattle.std.proofs.Common.{◌≡◌, ℕ, Bool, true, false, cond, ◌||◌, ◌&&◌, List, [], ◌∷◌, Option, Some, None, is_some, refl, sym, ap, ◌∙◌}
use Rattle.std.specs.FinMap as finite
use Rattle.std.specs.List.{list_all, list_any}
use Rattle.std.proofs.lemmas.Bool.{and_parts}
use Rattle.std.proofs.lemmas.Slice.Eq.{bytes_eq-Decides}
use Rattle.keep_shelf.specs.Shelved.{Content}
use Rattle.keep_shelf.specs.declared.key.Key.{Key}
use Rattle.keep_moves.specs.Move.{key_eq}
use Rattle.keep_moves.proofs.Keys.{key_eq_same}
use Rattle.keep_opening.specs.Wanted.{AgreeOnFiles, is_files, is_same_at, same_bytes}

same_equal : (a b : Option (List ℕ)) → same_bytes a b ≡ true → a ≡ b
same_equal None None e = refl
same_equal None (Some y) e = cc e
same_equal (Some x) None e = cc e
same_equal (Some x) (Some y) e = ap Some ((bytes_eq-Decides x y).0 e)

same_refl : (a : Option (List ℕ)) → same_bytes a a ≡ true
same_refl None = refl
same_refl (Some x) = (bytes_eq-Decides x x).1 refl

same_from : (a b : Option (List ℕ)) → a ≡ b → same_bytes a b ≡ true
same_from a b e = ap (same_bytes a) (sym e) ∙ same_refl a

module _ (one other : Content) where
  -- a key that is among those that were looked at
  passed : (keys : List Key) (q : Key) → list_all (is_same_at one other) keys ≡ true → list_any (key_eq q) keys ≡ true → is_same_at one other q ≡ true
  passed [] q all any = cc any
  passed (key ∷ keys) q all any = by (key_eq q key) refl any (passed keys q parts.1)
    where
      parts : (is_same_at one other key ≡ true) × (list_all (is_same_at one other) keys ≡ true)
      parts = and_parts _ _ all

      by : (b : Bool) → key_eq q key ≡ b → (b || list_any (key_eq q) keys) ≡ true → (list_any (key_eq q) keys ≡ true → is_same_at one other q ≡ true) → is_same_at one other q ≡ true
      by true is any_here rest = ap (is_same_at one other) (key_eq_same q key is) ∙ parts.0
      by false is any_here rest = rest any_here

  same_there : (q : Key) → is_files q ≡ true → is_same_at one other q ≡ true → finite.get one q ≡ finite.get other q
  same_there q files same =
      same_equal (finite.get one q) (finite.get other q) (sym (ap (λ b. cond b (same_bytes (finite.get one q) (finite.get other q)) true) files) ∙ same)

  pub agreed : list_all (is_same_at one other) (finite.keys one) ≡ true → list_all (is_same_at one other) (finite.keys other) ≡ true → AgreeOnFiles one other
  agreed first second q files = by (finite.get one q) (finite.get other q) refl refl
    where
      in_keys : (content : Content) (x : List ℕ) → finite.get content q ≡ Some x → list_any (key_eq q) (finite.keys content) ≡ true
      in_keys content x is = sym (finite.contains_key-keys content q) ∙ ap is_some is

      by : (a b : Option (List ℕ)) → finite.get one q ≡ a → finite.get other q ≡ b → finite.get one q ≡ finite.get other q
      by None None is_a is_b = is_a ∙ sym is_b
      by (Some x) b is_a is_b = same_there q files (passed (finite.keys one) q first (in_keys one x is_a))
      by None (Some y) is_a is_b = same_there q files (passed (finite.keys other) q second (in_keys other y is_b))

  pub agrees : AgreeOnFiles one other → (keys : List Key) → list_all (is_same_at one other) keys ≡ true
  agrees agree [] = refl
  agrees agree (key ∷ keys) = ap (λ b. b && list_all (is_same_at one other) keys) (by (is_files key) refl) ∙ agrees agree keys
    where
      by : (b : Bool) → is_files key ≡ b → cond b (same_bytes (finite.get one key) (finite.get other key)) true ≡ true
      by true is = same_from (finite.get one key) (finite.get other key) (agree key is)
      by false is = refl
