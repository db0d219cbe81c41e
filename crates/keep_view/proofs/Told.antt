-- What the changes after a number tell of the snapshots that are known, one by one.
use Rattle.std.proofs.Common.{◌≡◌, ℕ, ◌+◌, ◌≤◌, Bool, true, false, ◌||◌, ◌&&◌, nat_lt, Option, Some, None, inl, inr, nat_le, refl, sym, ap, ap₂, ◌∙◌}
use Rattle.std.specs.List.{list_any}
use Rattle.std.specs.Option.{option_map_or}
use Rattle.std.proofs.Math.Bool.{or_assoc, or-false, or-true}
use Rattle.std.proofs.lemmas.Bool.{cases_lt, le-ltb}
use Rattle.keep_names.specs.declared.id.Id.{Id}
use Rattle.keep_change.specs.Fold.{Numbered}
use Rattle.keep_change.specs.declared.change.Change.{Change}
use Rattle.keep_journal.specs.History.{IsNumbered, change_of, last_change}
use Rattle.keep_journal.specs.Journal.{Journal}
use Rattle.keep_journal.specs.Kept.{above, kept_change, later}
use Rattle.keep_journal.proofs.Commits.{no_change, some_change}
use Rattle.keep_journal.proofs.Kept.{above-below, above-next, above-past, later_none}
use Rattle.keep_journal.proofs.Later.{later_with, later_without}
use Rattle.keep_view.specs.Telling.{has_snapshot, is_told_by}

-- whether the change adds the snapshot
abbrev pub adds_it : Id → Numbered → Bool
adds_it id n = has_snapshot n.change.adds id

-- whether it drops the snapshot
abbrev pub drops_it : Id → Numbered → Bool
drops_it id n = has_snapshot n.change.drops id

-- what the changes after n tell: those that are added, and those that a kept one drops
abbrev pub told_above : Journal → ℕ → Id → Bool
told_above j n id =
    list_any (adds_it id) (above j n) || list_any (drops_it id) (later j n)

none_above : (j : Journal) (n : ℕ) (id : Id) → IsNumbered j → last_change j ≤ n → told_above j n id ≡ false
none_above j n id numbered end = rw (above-past j n numbered end, later_none j n numbered end) refl

four : (a b c d : Bool) → ((a || b) || (c || d)) ≡ ((a || c) || (b || d))
four true b c d = refl
four false true c d = sym (or-true c)
four false false c d = refl

added_next : (j : Journal) (n k : ℕ) (id : Id) → IsNumbered j → k ≡ n + 1 → k ≤ last_change j
    → list_any (adds_it id) (above j n) ≡ (option_map_or (λ c. has_snapshot c.adds id) (change_of j k) false || list_any (adds_it id) (above j k))
added_next j n k id numbered next within =
    let told : Option Change → Bool = λ o. option_map_or (λ c. has_snapshot c.adds id) o false || list_any (adds_it id) (above j k) in
    elim (cases_lt j.base k) [
      | inl up ↦
          let there = some_change j k numbered up within in
          ap (list_any (adds_it id)) (above-next j n k there.0 numbered next there.1) ∙ ap told (sym there.1)
      | inr down ↦
          let absent : (nat_lt j.base k && nat_le k (last_change j)) ≡ false = rw (le-ltb j.base k down) refl in
          ap (list_any (adds_it id)) (above-below j n k numbered next down) ∙ ap told (sym (no_change j k numbered absent))
    ]

dropped_next : (j : Journal) (n k : ℕ) (id : Id) → IsNumbered j → k ≡ n + 1 → k ≤ last_change j → (o : Option Change) → kept_change j k ≡ o
    → list_any (drops_it id) (later j n) ≡ (option_map_or (λ c. has_snapshot c.drops id) o false || list_any (drops_it id) (later j k))
dropped_next j n k id numbered next within None e = ap (list_any (drops_it id)) (later_without j n k numbered next within e)
dropped_next j n k id numbered next within (Some c) e = ap (list_any (drops_it id)) (later_with j n k c numbered next e)

-- the next one, and those after it
told_next : (j : Journal) (n k : ℕ) (id : Id) → IsNumbered j → k ≡ n + 1 → k ≤ last_change j → told_above j n id ≡ (is_told_by j k id || told_above j k id)
told_next j n k id numbered next within =
    ap₂ ◌||◌ (added_next j n k id numbered next within) (dropped_next j n k id numbered next within (kept_change j k) refl)
    ∙ four (option_map_or (λ c. has_snapshot c.adds id) (change_of j k) false) (list_any (adds_it id) (above j k))
    (option_map_or (λ c. has_snapshot c.drops id) (kept_change j k) false) (list_any (drops_it id) (later j k))

-- what knew the snapshots before a change and all after it
pub told_on : (j : Journal) (n k : ℕ) (id : Id) → IsNumbered j → k ≡ n + 1 → k ≤ last_change j → (now then all : Bool)
    → (now || told_above j n id) ≡ all → then ≡ (now || is_told_by j k id) → (then || told_above j k id) ≡ all
told_on j n k id numbered next within now then all so step =
    ap (λ b. b || told_above j k id) step ∙ or_assoc now (is_told_by j k id) (told_above j k id)
    ∙ ap (λ b. now || b) (sym (told_next j n k id numbered next within)) ∙ so

pub told_all : (j : Journal) (n : ℕ) (id : Id) → IsNumbered j → last_change j ≤ n → (now all : Bool) → (now || told_above j n id) ≡ all → now ≡ all
told_all j n id numbered end now all so = sym (ap (λ b. now || b) (none_above j n id numbered end) ∙ or-false now) ∙ so
