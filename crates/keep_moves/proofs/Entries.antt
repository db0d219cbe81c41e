-- The keys of entries.
use Rattle.std.proofs.Common.{◌≡◌, ℕ, ◌≤◌, true, false, List, [], ◌∷◌, ap, arith}
use Rattle.std.specs.List.{fold}
use Rattle.keep_journal.specs.History.{AscendFrom}
use Rattle.keep_journal.specs.declared.event.Entry as the_entry
use Rattle.keep_shelf.specs.declared.key.Key.TheVariants.{Entry}
use Rattle.keep_moves.specs.Move.{key_eq}
use Rattle.keep_moves.proofs.Keys.{key_eq_apart, key_eq_from}

-- ---- numbers of entries

pub entry_same : (i k : ℕ) → i ≡ k → key_eq (Entry i) (Entry k) ≡ true
entry_same i k e = key_eq_from (Entry i) (Entry k) (ap (λ x. Entry x) e)

pub entry_other : (i k : ℕ) → (i ≡ k → ⊥) → key_eq (Entry i) (Entry k) ≡ false
entry_other i k apart = key_eq_apart (Entry i) (Entry k) (λ same. apart (number same))
  where
    number : Entry i ≡ Entry k → i ≡ k
    number same = cc

-- the last number isn't below the first
pub last_from : (m : ℕ) (es : List the_entry.Entry) → AscendFrom m es → m ≤ fold (λ before x. x.at) m es
last_from m [] h = omega arith
last_from m (e ∷ es) h = omega (arith, h.0, last_from e.at es h.1)
