-- What the findings on a shelf say of it.
use Rattle.std.proofs.Common.{◌≡◌, ℕ, List, [], ◌∷◌, map, take, Option, Some, None, inl, inr, refl, sym, ◌∙◌, subst, arith}
use Rattle.std.specs.Prelude.{Result, Ok, Err, IfOk}
use Rattle.std.specs.List.{AllByRecursion, filter_map}
use Rattle.keep_journal.specs.History.{final_number}
use Rattle.keep_journal.specs.Journal.{Journal}
use Rattle.keep_moves.specs.Move.{Stand}
use Rattle.keep_reading.specs.Bad.{first_bad}
use Rattle.keep_reading.specs.Leaves.{AreLeaves, entries_of}
use Rattle.keep_reading.specs.Lists.{Lists}
use Rattle.keep_reading.specs.Reads.{all_of, told}
use Rattle.keep_reading.specs.declared.leaf.Leaf.{Leaf}
use Rattle.keep_reading.proofs.Bad.{none_is_bad}
use Rattle.keep_damage.specs.Blame.{IsToBlame}
use Rattle.keep_damage.specs.Compared.{difference_at, keys_of_both, noted}
use Rattle.keep_damage.specs.Damage.{AreDifferences, FoundBy, IsDamage, IsLeft, IsRead}
use Rattle.keep_damage.specs.Entries.{entry_finding, sign_of}
use Rattle.keep_damage.specs.declared.finding.Finding.{Finding}
use Rattle.keep_damage.proofs.Blaming.{difference_blames, entries_blame, first_found}
use Rattle.keep_damage.proofs.Noted.{all_each, all_of_map, noted_all, noted_take}

pub if_ok : {A E : Type 0} (r : Result A E) (P Q : A → Type 0) → IfOk r P → ((x : A) → P x → Q x) → IfOk r Q
if_ok (Ok x) P Q p so = so x p
if_ok (Err e) P Q p so = tt

-- ---- which findings there are

pub damage_of_entries : (stand : Stand) (leaves : List Leaf) (first : ℕ) (found : List Finding) → AreLeaves stand leaves → first_bad leaves ≡ Some first
    → found ≡ noted (entry_finding first) (map sign_of leaves) [] → IsDamage stand found
damage_of_entries stand leaves first found are bad is = record {
  leaves = leaves;
  are = are;
  told = subst (λ (o : Option ℕ). FoundBy stand leaves o found) (sym bad) (is ∙ noted_take (entry_finding first) (map sign_of leaves) [] (omega arith));
}

pub damage_of_rest : (stand : Stand) (leaves : List Leaf) (j : Journal) (found : List Finding) → AreLeaves stand leaves → first_bad leaves ≡ None → j ≡ told (entries_of leaves)
    → IsLeft stand j found → IsDamage stand found
damage_of_rest stand leaves j found are none tells left = record {
  leaves = leaves;
  are = are;
  told = subst (λ (o : Option ℕ). FoundBy stand leaves o found) (sym none) (subst (λ (i : Journal). IsLeft stand i found) tells left);
}

-- ---- each is right

differences_blame : (stand : Stand) (leaves : List Leaf) (found : List Finding) → AreLeaves stand leaves → first_bad leaves ≡ None
    → AreDifferences stand (told (entries_of leaves)) found → AllByRecursion (IsToBlame stand) found
differences_blame stand leaves found are none d =
    let es = entries_of leaves in
    let lists : Lists stand es = (none_is_bad stand leaves are none).lists in
    let at = difference_at (told es) d.there d.asked in
    let keys = keys_of_both d.there d.asked in
    subst (AllByRecursion (IsToBlame stand)) (noted_take at keys [] (omega arith) ∙ sym d.list)
    (noted_all at (IsToBlame stand) keys [] tt
    (all_each (λ q. (f : Finding) → at q ≡ Some f → IsToBlame stand f) keys (λ q f is. difference_blames stand es lists d.there d.asked d.made d.is_asked q f is)))

pub damage_blames : (stand : Stand) (found : List Finding) → IsDamage stand found → AllByRecursion (IsToBlame stand) found
damage_blames stand found damage = by (first_bad damage.leaves) refl damage.told
  where
    left : first_bad damage.leaves ≡ None → IsLeft stand (told (entries_of damage.leaves)) found → AllByRecursion (IsToBlame stand) found
    left none (inl some) = differences_blame stand damage.leaves found damage.are none some.1
    left none (inr (d, inl rest)) = subst (AllByRecursion (IsToBlame stand)) (sym rest.0) tt
    left none (inr (d, inr rest)) = subst (AllByRecursion (IsToBlame stand)) (sym rest.0) (rest.1, tt)

    by : (o : Option ℕ) → first_bad damage.leaves ≡ o → FoundBy stand damage.leaves o found → AllByRecursion (IsToBlame stand) found
    by (Some first) bad is =
        subst (AllByRecursion (IsToBlame stand)) (noted_take (entry_finding first) (map sign_of damage.leaves) [] (omega arith) ∙ sym is)
        (noted_all (entry_finding first) (IsToBlame stand) (map sign_of damage.leaves) [] tt
        (all_of_map (λ s. (f : Finding) → entry_finding first s ≡ Some f → IsToBlame stand f) sign_of damage.leaves (entries_blame stand damage.leaves first damage.are bad)))
    by None none is = left none is

-- ---- without any there is a reading

take_none : (xs : List Finding) → take 10 xs ≡ [] → xs ≡ []
take_none [] h = refl
take_none (x ∷ xs) h = cc h

pub damage_none : (stand : Stand) (found : List Finding) → IsDamage stand found → found ≡ [] → IsRead stand
damage_none stand found damage none = by (first_bad damage.leaves) refl damage.told
  where
    left : IsLeft stand (told (entries_of damage.leaves)) found → IsRead stand
    left (inl some) = absurd (some.0 none)
    left (inr (d, inl rest)) = rest.1
    left (inr (d, inr rest)) = cc (none, rest.0)

    by : (o : Option ℕ) → first_bad damage.leaves ≡ o → FoundBy stand damage.leaves o found → IsRead stand
    by (Some first) bad is =
        absurd (first_found (final_number (all_of (entries_of damage.leaves))) [] damage.leaves first bad
        (take_none (filter_map (entry_finding first) (map sign_of damage.leaves)) (sym is ∙ none)))
    by None clean is = left is
