-- Where a walk over the keys stops short.
use Rattle.std.proofs.Common.{◌≡◌, ◌∙◌, ℕ, suc, ◌+◌, ◌<◌, IfErr, Ok, Err, Result, ap, arith, subst, sym}
use Rattle.keep_shelf.specs.Shelved.{Shelved, called}
use Rattle.keep_moves.specs.Calls.{looks, played}
use Rattle.keep_moves.proofs.Played.{looks_more}
use Rattle.keep_opening.specs.Intake.{StopsShort}
use Rattle.keep_opening.specs.declared.open_error.OpenError.{OpenError}
use Rattle.keep_opening.specs.declared.open_error.OpenError.TheVariants.{BadEntry, Fault, Memory}

-- memory ran out behind one more read
pub memory_short : (count i : ℕ) (s t left : Shelved) (why : OpenError) → why ≡ Memory → i < count → t ≡ played (looks i) s → left ≡ called t t.content → StopsShort count s why left
memory_short count i s t left why is within so_far last =
    subst (λ e. StopsShort count s e left) (sym is)
    (i + 1, omega arith, last ∙ ap (λ (r : Shelved). called r r.content) so_far ∙ sym (looks_more i s))

-- one read was made before
later_short : (count : ℕ) (s left : Shelved) (why : OpenError) → StopsShort count (called s s.content) why left → StopsShort (1 + count) s why left
later_short count s left (BadEntry k) h = h
later_short count s left Fault h = (suc h.0, omega arith, h.2)
later_short count s left Memory h = (suc h.0, omega arith, h.2)

pub listed_short : {T : Type 0} (count length : ℕ) (s next left : Shelved) (r : Result T OpenError) → length ≡ count → next ≡ called s s.content
    → IfErr r (λ why. StopsShort length next why left) → IfErr r (λ why. StopsShort (1 + count) s why left)
listed_short count length s next left (Ok stock) same is h = tt
listed_short count length s next left (Err why) same is h =
    later_short count s left why
    (subst (λ n. StopsShort n (called s s.content) why left) same (subst (λ t. StopsShort length t why left) is h))
