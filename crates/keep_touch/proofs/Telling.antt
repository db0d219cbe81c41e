-- What a facet held, as its next writer tells it.
use Rattle.std.proofs.Common.{◌≡◌, ℕ, ◌+◌, ◌≤◌, ◌==◌, nat_lt, Bool, true, false, ◌&&◌, cond, List, [], ◌∷◌, Some, None, refl, ap, ◌∙◌, arith}
use Rattle.std.proofs.lemmas.Bool.{and_parts, eq-eqb, ne_eqb}
use Rattle.std.specs.List.{filter, find, AllByRecursion}
use Rattle.std.specs.Option.{option_map}
use Rattle.keep_repo.specs.declared.facet.Facet.{Facet}
use Rattle.keep_change.specs.Change.{written, Holding}
use Rattle.keep_change.specs.Fold.{Numbered}
use Rattle.keep_change.specs.Holdings.{value_at}
use Rattle.keep_change.specs.Touch.{writes}
use Rattle.keep_change.proofs.Records.{RecordAt, a_record, no_record, record_at}
use Rattle.keep_journal.specs.History.{change_of, committed, CountsFrom, IsNumbered}
use Rattle.keep_journal.specs.Journal.{Journal}
use Rattle.keep_journal.specs.Kept.{is_kept, kept_change, later}
use Rattle.keep_touch.specs.Finding.{first_writer, held_before}
use Rattle.keep_touch.proofs.Picking.{all_weaker}

-- ---- each later change is found by its number

found_itself : (k : ℕ) (ns : List Numbered) → CountsFrom k ns → AllByRecursion (λ n. (k ≤ n.number) × (find (λ m. m.number == n.number) ns ≡ Some n)) ns
found_itself k [] counts = tt
found_itself k (n ∷ ns) counts = (
  (omega (arith, counts.0), rw (eq-eqb n.number n.number refl) refl),
  all_weaker (λ m found. (omega (arith, found.0), rw (ne_eqb n.number m.number (λ e. omega (arith, e, found.0, counts.0))) found.1)) ns (found_itself (k + 1) ns counts.1),
)

all-filter : {X : Type 0} (P : X → Type 0) (p : X → Bool) (xs : List X) → AllByRecursion P xs → AllByRecursion (λ x. (p x ≡ true) × P x) (filter p xs)
all-filter P p [] all = tt
all-filter P p (x ∷ xs) all = one (p x) refl (all-filter P p xs all.1)
  where
    one : (b : Bool) → p x ≡ b → AllByRecursion (λ x. (p x ≡ true) × P x) (filter p xs) → AllByRecursion (λ x. (p x ≡ true) × P x) (cond b (x ∷ filter p xs) (filter p xs))
    one true passes rest = ((passes, all.0), rest)
    one false fails rest = rest

later_known : (j : Journal) (n : ℕ) → IsNumbered j → AllByRecursion (λ m. kept_change j m.number ≡ Some m.change) (later j n)
later_known j n numbered = all_weaker (λ m found. known m (and_parts (is_kept j m.number) (nat_lt n m.number) found.0).0 found.1.1) (later j n)
    (all-filter _ (λ m. is_kept j m.number && nat_lt n m.number) (committed j) (found_itself (j.base + 1) (committed j) numbered.commits))
  where
    known : (m : Numbered) → is_kept j m.number ≡ true → find (λ c. c.number == m.number) (committed j) ≡ Some m → kept_change j m.number ≡ Some m.change
    known m kept found = ap (λ b. cond b (change_of j m.number) None) kept ∙ ap (option_map (λ c. c.change)) found

-- ---- the first writer tells

told : (j : Journal) (ns : List Numbered) (end : Holding) (q : Facet) → AllByRecursion (λ m. kept_change j m.number ≡ Some m.change) ns
    → value_at ns end q ≡ held_before j (first_writer q ns) end q
told j [] end q known = refl
told j (n ∷ ns) end q known = one (writes n.change q) refl (record_at (written n.change) q) (told j ns end q known.1)
  where
    one : (b : Bool) → writes n.change q ≡ b → RecordAt (written n.change) q → value_at ns end q ≡ held_before j (first_writer q ns) end q
        → value_at (n ∷ ns) end q ≡ held_before j (option_map (λ m. m.number) (cond b (Some n) (find (λ m. writes m.change q) ns))) end q
    one true here (no_record none apart) rest = cc (here, apart)
    one true here (a_record w found same at) rest = rw (known.0, found) refl
    one false other (no_record none apart) rest = rw none rest
    one false other (a_record w found same at) rest = cc (other, same)

pub value_told : (j : Journal) (n : ℕ) (end : Holding) (q : Facet) → IsNumbered j → value_at (later j n) end q ≡ held_before j (first_writer q (later j n)) end q
value_told j n end q numbered = told j (later j n) end q (later_known j n numbered)
