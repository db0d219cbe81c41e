-- The last change that adds a snapshot, one change later.
use Rattle.std.proofs.Common.{◌≡◌, ℕ, zero, suc, ◌+◌, ◌<◌, ◌≤◌, ltb, Bool, true, false, ◌&&◌, cond, Option, None, Some, refl, sym, ap, subst, ◌∙◌, arith}
use Rattle.std.proofs.lemmas.Bool.Decides.{Decides-ltb}
use Rattle.std.specs.Option.{option_map_or}
use Rattle.keep_names.specs.declared.id.Id.{Id}
use Rattle.keep_journal.specs.History.{change_of, final_number, is_in_force}
use Rattle.keep_journal.specs.Journal.{Journal}
use Rattle.keep_journal.specs.Kept.{kept_change}
use Rattle.keep_named.specs.Adding.{adding_up_to, adds, has_snapshot}

not_below_at : (a b : ℕ) → b ≤ a → (x : Bool) → ltb a b ≡ x → x ≡ false
not_below_at a b h true is = let below : a < b = (Decides-ltb a b).0 is in absurd (omega arith)
not_below_at a b h false is = refl

not_below : (a b : ℕ) → b ≤ a → ltb a b ≡ false
not_below a b h = not_below_at a b h (ltb a b) refl

and_false : (a : Bool) → (a && false) ≡ false
and_false true = refl
and_false false = refl

-- no final change is kept
none_kept : (j : Journal) (n : ℕ) → n ≤ final_number j → kept_change j n ≡ None
none_kept j n final =
    ap (λ b. cond (is_in_force j n && b) (change_of j n) None) (not_below (final_number j) n final)
    ∙ ap (λ b. cond b (change_of j n) None) (and_false (is_in_force j n))

-- so none of them adds
pub nothing_final : (j : Journal) (snapshot : Id) (n : ℕ) → n ≤ final_number j → adding_up_to j snapshot n ≡ None
nothing_final j snapshot zero h = refl
nothing_final j snapshot (suc n) h =
    ap (λ o. cond (option_map_or (λ c. has_snapshot snapshot c.adds) o false) (Some (suc n)) (adding_up_to j snapshot n)) (none_kept j (suc n) h)
    ∙ nothing_final j snapshot n (omega arith)

-- one change later
pub one_later : (j : Journal) (snapshot : Id) (n : ℕ) (found later : Option ℕ) → found ≡ adding_up_to j snapshot n → later ≡ cond (adds j (n + 1) snapshot) (Some (n + 1)) found → later ≡ adding_up_to j snapshot (n + 1)
one_later j snapshot n found later so is =
    let next : suc n ≡ n + 1 = omega arith in
    let P : ℕ → Type 0 = λ m. adding_up_to j snapshot m ≡ cond (adds j m snapshot) (Some m) (adding_up_to j snapshot n) in
    is ∙ ap (cond (adds j (n + 1) snapshot) (Some (n + 1))) so ∙ sym (subst P next refl)
