-- The names that are kept, as a set.
use Rattle.std.proofs.Common.{◌≡◌, ℕ, suc, ◌+◌, ◌<◌, Bool, true, false, cond, ◌||◌, List, length, get_or, drop, refl, sym, ap, ap₂, ◌∙◌, add-one}
use Rattle.std.proofs.Math.Seq.{drop-cons}
use Rattle.std.specs.List.{list_any}
use Rattle.std.specs.Ordering.{eq_by_cmp}
use Rattle.keep_names.specs.Orders.{id_cmp}
use Rattle.keep_names.specs.declared.id.Id.{Id}

-- whether the name is one of these
abbrev pub is_named : List Id → Id → Bool
is_named names name = list_any (λ other. eq_by_cmp id_cmp other name) names

put_by : (tied known rest : Bool) → (cond tied true known || rest) ≡ (known || (tied || rest))
put_by true true rest = refl
put_by true false rest = refl
put_by false true rest = refl
put_by false false rest = refl

-- a name more is known, and one less is left
pub name_put : (names : List Id) (i : ℕ) (d name : Id) (known now total : Bool) → i < length names
    → now ≡ cond (eq_by_cmp id_cmp (get_or names i d) name) true known
    → (known || is_named (drop i names) name) ≡ total → (now || is_named (drop (i + 1) names) name) ≡ total
name_put names i d name known now total below e h =
    let tied : Bool = eq_by_cmp id_cmp (get_or names i d) name in
    ap₂ (λ b j. b || is_named (drop j names) name) e (add-one i)
    ∙ put_by tied known (is_named (drop (suc i) names) name)
    ∙ sym (ap (λ xs. known || is_named xs name) (drop-cons names i d below)) ∙ h
