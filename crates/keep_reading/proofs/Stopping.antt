-- Calls, one after another.
use Rattle.std.proofs.Common.{ℕ, zero, suc, List, [], ◌∷◌, length, map, take, sym, ◌∙◌, subst, append_assoc, append-nil}
use Rattle.std.specs.FinMap as finite
use Rattle.std.specs.List.{AllByRecursion}
use Rattle.std.proofs.Math.Seq.{drop-length, take-length}
use Rattle.keep_repo.specs.Repository.{Repository}
use Rattle.keep_journal.specs.Journal.{Journal}
use Rattle.keep_journal.specs.Lasting.{lasting}
use Rattle.keep_shelf.specs.Shelved.{Content, Shelved, called}
use Rattle.keep_moves.specs.Calls.{Make, left_by, looks, played}
use Rattle.keep_moves.specs.Move.{CanMake}
use Rattle.keep_moves.specs.declared.moves.Move.{Move}
use Rattle.keep_reading.specs.Reads.{Reads}
use Rattle.keep_reading.specs.Due.{IsRead}
use Rattle.keep_reading.specs.Laws.{CallsAreAdded, contents_along}
use Rattle.keep_reading.proofs.Moving.{moves_read}

-- ---- what calls leave

pub calls_added : CallsAreAdded
calls_added [] s = sym (append-nil s.calls)
calls_added (call ∷ calls) s =
    let next = left_by s.content call in
    calls_added calls (called s next) ∙ append_assoc s.calls (next ∷ []) (contents_along calls next)

-- reads leave all as it was
pub all_looks : (P : Content → Type 0) (i : ℕ) (content : Content) → P content → AllByRecursion P (contents_along (looks i) content)
all_looks P zero content holds = tt
all_looks P (suc i) content holds = (holds, all_looks P i content holds)

-- ---- all moves that are due

pub all_moves : (opening : Repository) (j : Journal) (due : List Move) (s : Shelved) → IsRead opening j due (finite.get s.content) → CanMake due (finite.get s.content)
    → AllByRecursion (λ content. Reads (finite.get content) opening (lasting j)) (contents_along (map Make due) s.content)
    × IsRead opening j [] (finite.get (played (map Make due) s).content)
all_moves opening j due s read can =
    let made = moves_read opening j due s (length due) read can in (
      subst (λ ms. AllByRecursion (λ content. Reads (finite.get content) opening (lasting j)) (contents_along (map Make ms) s.content)) (take-length due) made.0,
      subst (λ ms. IsRead opening j [] (finite.get (played (map Make ms) s).content)) (take-length due)
          (subst (λ ms. IsRead opening j ms (finite.get (played (map Make (take (length due) due)) s).content)) (drop-length due) made.1),
    )
