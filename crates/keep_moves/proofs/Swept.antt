-- What an emptying erases, change by change.
use Rattle.std.proofs.Common.{◌≡◌, ℕ, ◌+◌, ◌<◌, ◌≤◌, nat_le, nat_lt, Bool, true, false, ◌&&◌, cond, List, [], ◌∷◌, ◌++◌, map, Some, refl, sym, ap, ◌∙◌, arith, append-nil, append_assoc}
use Rattle.std.specs.List.{flat_map}
use Rattle.std.specs.Option.{option_map_or}
use Rattle.std.proofs.lemmas.Bool.{le-leb}
use Rattle.std.proofs.lemmas.Bool.Decides.{nat_tests}
use Rattle.std.proofs.lemmas.List.{map-append}
use Rattle.keep_change.specs.Fold.{Numbered}
use Rattle.keep_change.specs.declared.change.Change.{Change}
use Rattle.keep_journal.specs.History.{change_of, last_change, IsNumbered}
use Rattle.keep_journal.specs.Journal.{Journal}
use Rattle.keep_journal.proofs.Chosen.{chosen_next, chosen_none}
use Rattle.keep_journal.proofs.Commits.{some_change}
use Rattle.keep_shelf.specs.declared.key.Key.{Key}
use Rattle.keep_moves.specs.Lists.{made_final, trash_at, trash_of}
use Rattle.keep_moves.specs.declared.moves.Move.{Move}
use Rattle.keep_moves.specs.declared.moves.Move.TheVariants.{Erase}

-- ---- one change

of_change : (j : Journal) (m : ℕ) (c : Change) → change_of j m ≡ Some c → trash_at j m ≡ trash_of j (record { number = m; change = c })
of_change j m c is_c = ap (λ o. option_map_or (λ (d : Change). trash_of j (record { number = m; change = d })) o []) is_c

-- ---- one after another

one_first : (b : Bool) (j : Journal) (c : Numbered) (ns : List Numbered) → b ≡ true → flat_map (trash_of j) (cond b (c ∷ []) [] ++ ns) ≡ trash_of j c ++ flat_map (trash_of j) ns
one_first true j c ns e = refl
one_first false j c ns e = cc e

-- the trash of the next change comes first
pub trash_next : (j : Journal) (f n : ℕ) → IsNumbered j → j.base ≤ f → f < n → n ≤ last_change j
    → flat_map (trash_of j) (made_final j f n) ≡ trash_at j (f + 1) ++ flat_map (trash_of j) (made_final j (f + 1) n)
trash_next j f n numbered above within upto =
    let there = some_change j (f + 1) numbered (omega arith) (omega arith) in
    let c = there.0 in
    ap (flat_map (trash_of j)) (chosen_next (λ m. nat_le m n) j f (f + 1) c numbered refl there.1)
    ∙ one_first (nat_le (f + 1) n) j (record { number = f + 1; change = c }) (made_final j (f + 1) n) (le-leb (f + 1) n (omega arith))
    ∙ ap (λ keys. keys ++ flat_map (trash_of j) (made_final j (f + 1) n)) (sym (of_change j (f + 1) c there.1))

-- and there is none past the last
pub trash_end : (j : Journal) (f n : ℕ) → IsNumbered j → n ≤ f → made_final j f n ≡ []
trash_end j f n numbered past = chosen_none (λ m. nat_le m n && nat_lt f m) j numbered (λ m low high. none m)
  where
    none : (m : ℕ) → (nat_le m n && nat_lt f m) ≡ false
    none m = grind (arith, nat_tests)

-- ---- as moves

pub one_swept : (before after : List Move) (first rest all : List Key) (total : List Move) → all ≡ first ++ rest → after ≡ before ++ map Erase first
    → before ++ map Erase all ≡ total → after ++ map Erase rest ≡ total
one_swept before after first rest all total parts more so_far =
    ap (λ ms. ms ++ map Erase rest) more ∙ append_assoc before (map Erase first) (map Erase rest)
    ∙ ap (λ ms. before ++ ms) (sym (map-append Erase first rest) ∙ ap (map Erase) (sym parts)) ∙ so_far

pub all_swept : (before after : List Move) (left trash entries : List Key) → left ≡ [] → before ++ map Erase left ≡ map Erase trash → after ≡ before ++ map Erase entries
    → after ≡ map Erase (trash ++ entries)
all_swept before after left trash entries none so_far more =
    let front : before ≡ map Erase trash = sym (append-nil before) ∙ ap (λ keys. before ++ map Erase keys) (sym none) ∙ so_far in
    more ∙ ap (λ ms. ms ++ map Erase entries) front ∙ sym (map-append Erase trash entries)
