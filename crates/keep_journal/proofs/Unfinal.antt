-- The changes that aren't final are the last ones, in a row.
use Rattle.std.proofs.Common.{◌≡◌, ℕ, zero, suc, ◌+◌, ◌-◌, ◌<◌, ◌≤◌, ◌==◌, nat_lt, List, [], ◌∷◌, cond, drop, length, map, refl, sym, ap, ◌∙◌, arith}
use Rattle.std.proofs.lemmas.Bool.{le-ltb, lt-ltb}
use Rattle.std.proofs.lemmas.List.{drop-drop, length-drop}
use Rattle.std.specs.List.{filter, find, slice_get}
use Rattle.std.specs.Option.{option_map}
use Rattle.keep_change.specs.Fold.{Numbered}
use Rattle.keep_journal.specs.History.{change_of, committed, final_number, last_change, CountsFrom, IsNumbered}
use Rattle.keep_journal.specs.Journal.{Journal}
use Rattle.keep_journal.specs.Kept.{above, unfinal}
use Rattle.keep_journal.proofs.Commits.{find-slice_get}

-- ---- lists that are numbered from k on

all_above : (k f : ℕ) (ns : List Numbered) → CountsFrom k ns → f < k → filter (λ n. nat_lt f n.number) ns ≡ ns
all_above k f [] h lt = refl
all_above k f (m ∷ ns) h lt =
    let first : m.number ≡ k = h.0 in
    rw (lt-ltb f m.number (omega arith), all_above (k + 1) f ns h.1 (omega arith)) refl

-- those above a number are what is left after the first d
above_drop : (k f d : ℕ) (ns : List Numbered) → CountsFrom k ns → f + 1 ≡ k + d → filter (λ n. nat_lt f n.number) ns ≡ drop d ns
above_drop k f zero ns h e = all_above k f ns h (omega arith)
above_drop k f (suc d) [] h e = refl
above_drop k f (suc d) (m ∷ ns) h e =
    let first : m.number ≡ k = h.0 in
    rw (le-ltb f m.number (omega arith)) (above_drop (k + 1) f d ns h.1 (omega arith))

CountsFrom-drop : (k d : ℕ) (ns : List Numbered) → CountsFrom k ns → CountsFrom (k + d) (drop d ns)
CountsFrom-drop k zero ns h =
    let same : k + 0 ≡ k = omega arith in
    rw same h
CountsFrom-drop k (suc d) [] h = tt
CountsFrom-drop k (suc d) (m ∷ ns) h =
    let moved : k + 1 + d ≡ k + suc d = omega arith in
    rw moved at (CountsFrom-drop (k + 1) d ns h.1)

slice_get-drop : {X : Type 0} (d i : ℕ) (xs : List X) → slice_get (drop d xs) i ≡ slice_get xs (d + i)
slice_get-drop zero i xs = ap (slice_get xs) (omega arith)
slice_get-drop (suc d) i [] = refl
slice_get-drop (suc d) i (x ∷ xs) =
    let next : suc d + i ≡ suc (d + i) = omega arith in
    slice_get-drop d i xs ∙ sym (ap (slice_get (x ∷ xs)) next)

-- ---- the changes after a number

pub above_is_drop : (j : Journal) (n : ℕ) → IsNumbered j → j.base ≤ n → above j n ≡ drop (n - j.base) (committed j)
above_is_drop j n h from = above_drop (j.base + 1) n (n - j.base) (committed j) h.commits (omega arith)

pub unfinal_counts : (j : Journal) → IsNumbered j → CountsFrom (final_number j + 1) (unfinal j)
unfinal_counts j h =
    let first = h.first_final in
    let from : j.base + 1 + (final_number j - j.base) ≡ final_number j + 1 = omega arith in
    rw (above_is_drop j (final_number j) h first, ← from) (CountsFrom-drop (j.base + 1) (final_number j - j.base) (committed j) h.commits)

pub unfinal_length : (j : Journal) → IsNumbered j → final_number j + length (unfinal j) ≡ last_change j
unfinal_length j h =
    let first = h.first_final in
    let last = h.last_final in
    let rest = length-drop (final_number j - j.base) (committed j) in
    rw (above_is_drop j (final_number j) h first, rest) (omega arith)

-- the change at a place among them
pub change_at : (j : Journal) (n : ℕ) → IsNumbered j → final_number j < n
    → change_of j n ≡ option_map (λ m. m.change) (slice_get (unfinal j) (n - final_number j - 1))
change_at j n h above =
    let first = h.first_final in
    let skipped : final_number j - j.base + (n - final_number j - 1) ≡ n - j.base - 1 = omega arith in
    ap (option_map (λ m. m.change)) (
    find-slice_get (j.base + 1) (committed j) (n - j.base - 1) n h.commits (omega arith)
    ∙ sym (ap (slice_get (committed j)) skipped)
    ∙ sym (slice_get-drop (final_number j - j.base) (n - final_number j - 1) (committed j))
    ∙ sym (ap (λ ns. slice_get ns (n - final_number j - 1)) (above_is_drop j (final_number j) h first)))
