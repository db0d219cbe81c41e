-- The moves that are due are made, all or as far as the shelf goes.
use Rattle.std.proofs.Common.{◌≡◌, ◌∙◌, ℕ, ◌+◌, ◌-◌, ◌<◌, ◌≤◌, List, [], Result, Ok, Err, ap, arith, drop, length, map, subst, sym, take}
use Rattle.std.specs.Prelude.{OnErr, OnOk}
use Rattle.std.specs.FinMap as finite
use Rattle.std.proofs.Math.Seq.{drop-length, take-length}
use Rattle.std.proofs.lemmas.List.{drop-drop, length-drop}
use Rattle.keep_repo.specs.Repository.{Repository}
use Rattle.keep_journal.specs.Journal.{Journal}
use Rattle.keep_journal.specs.Opening.{opening_under}
use Rattle.keep_shelf.specs.Shelved.{Shelved, failed}
use Rattle.keep_moves.specs.Behind.{IsBehind}
use Rattle.keep_moves.specs.Calls.{Make, played}
use Rattle.keep_moves.specs.declared.moves.Move.{Move}
use Rattle.keep_moves.proofs.Played.{stops_behind}
use Rattle.keep_reading.specs.Due.{IsRead}
use Rattle.keep_reading.proofs.Moving.{moves_read}
use Rattle.keep_touch.specs.declared.touch.Touch.{Touch}
use Rattle.keep_ledger.specs.Ends.{FaultsAtMoves}
use Rattle.keep_ledger.specs.OnShelf.{IsKept, OnShelf, ledger_on}

-- what holds anyway holds after an error
pub whatever : {T E A : Type 0} (r : Result T E) → A → OnErr r A
whatever (Ok t) a = tt
whatever (Err e) a = a

module _ (j : Journal) (live : Repository) (touch : Touch) (moves : List Move) (made : ℕ) (s : Shelved) (kept : IsKept j live touch moves made s) where
  -- some more of them were made
  more_made : (i now : ℕ) (left : Shelved) → now ≡ made + i → now ≤ length moves → left.content ≡ (played (map Make (take i (drop made moves))) s).content
      → IsKept j live touch moves now left
  more_made i now left count within same = record {
    consistent = kept.consistent;
    within = within;
    behind =
        subst (λ content. IsBehind j live (drop now moves) (finite.get content)) (sym same)
        (subst (λ due. IsBehind j live due (finite.get (played (map Make (take i (drop made moves))) s).content)) (drop-drop i made moves ∙ ap (λ k. drop k moves) (sym count))
        (stops_behind j live (drop made moves) i s kept.behind));
    reads =
        subst (λ content. IsRead (opening_under j live) j (drop now moves) (finite.get content)) (sym same)
        (subst (λ due. IsRead (opening_under j live) j due (finite.get (played (map Make (take i (drop made moves))) s).content)) (drop-drop i made moves ∙ ap (λ k. drop k moves) (sym count))
        (moves_read (opening_under j live) j (drop made moves) s i kept.reads kept.behind.can).1);
  }

  -- all of them were made, and are let go
  pub all_made : (now : ℕ) (left : Shelved) → now ≡ length moves → left ≡ played (map Make (drop made moves)) s → (none : List Move) → none ≡ []
      → IsKept j live touch none 0 left
  all_made now left all played_on none nothing =
      let due = drop made moves in
      let within = kept.within in
      let done = more_made (length due) now left (omega (arith, length-drop made moves)) (omega arith)
      (ap (λ (t : Shelved). t.content) (played_on ∙ ap (λ ms. played (map Make ms) s) (sym (take-length due)))) in
      let rest : drop now moves ≡ [] = ap (λ k. drop k moves) all ∙ drop-length moves in
      subst (λ (ms : List Move). IsKept j live touch ms 0 left) (sym nothing) (record {
        consistent = done.consistent;
        within = omega arith;
        behind = subst (λ (ms : List Move). IsBehind j live ms (finite.get left.content)) rest done.behind;
        reads = subst (λ (ms : List Move). IsRead (opening_under j live) j ms (finite.get left.content)) rest done.reads;
      })

  module _ {T E : Type 0} (r : Result T E) (now : ℕ) (left : Shelved)
      (all : OnOk r (now ≡ length moves)) (ok : OnOk r (left ≡ played (map Make (drop made moves)) s))
      (onward : OnErr r (made ≤ now)) (short : OnErr r (now < length moves))
      (err : OnErr r (left ≡ failed (played (map Make (take (now - made) (drop made moves))) s))) where
    pub finished_kept : IsKept j live touch moves now left
    finished_kept = by r all ok onward short err where
      by : (r : Result T E) → OnOk r (now ≡ length moves) → OnOk r (left ≡ played (map Make (drop made moves)) s) → OnErr r (made ≤ now)
          → OnErr r (now < length moves) → OnErr r (left ≡ failed (played (map Make (take (now - made) (drop made moves))) s))
          → IsKept j live touch moves now left
      by (Ok t) all ok onward short err =
          let due = drop made moves in
          let within = kept.within in
          more_made (length due) now left (omega (arith, length-drop made moves)) (omega arith)
          (ap (λ (t : Shelved). t.content) (ok ∙ ap (λ ms. played (map Make ms) s) (sym (take-length due))))
      by (Err e) all ok onward short err = more_made (now - made) now left (omega arith) (omega arith) (ap (λ (t : Shelved). t.content) err)

    pub faults_at : (self : OnShelf) → ledger_on j live (drop made moves) s ≡ self → OnErr r (FaultsAtMoves self (ledger_on j live (drop now moves) left))
    faults_at self shows = subst (λ b. OnErr r (FaultsAtMoves b (ledger_on j live (drop now moves) left))) shows (by r onward short err) where
      by : (r : Result T E) → OnErr r (made ≤ now) → OnErr r (now < length moves)
          → OnErr r (left ≡ failed (played (map Make (take (now - made) (drop made moves))) s))
          → OnErr r (FaultsAtMoves (ledger_on j live (drop made moves) s) (ledger_on j live (drop now moves) left))
      by (Ok t) onward short err = tt
      by (Err e) onward short err =
          let count : made + (now - made) ≡ now = omega arith in
          let rest : drop now moves ≡ drop (now - made) (drop made moves) = ap (λ k. drop k moves) (sym count) ∙ sym (drop-drop (now - made) made moves) in
          (now - made, omega (arith, length-drop made moves), ap (λ due. ledger_on j live due left) rest ∙ ap (ledger_on j live (drop (now - made) (drop made moves))) err)
