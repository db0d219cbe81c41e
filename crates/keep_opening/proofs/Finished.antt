-- Moves that are made one after another on a stock, where they remain.
use Rattle.std.proofs.Common.{◌≡◌, ℕ, ◌+◌, ◌<◌, true, false, cond, List, ◌∷◌, drop, get_or, length, sym, ap, ◌∙◌, add-one}
use Rattle.std.specs.FinMap as finite
use Rattle.std.proofs.Math.Seq.{drop-cons}
use Rattle.keep_shelf.specs.Shelved.{Content}
use Rattle.keep_moves.specs.Calls.{made_in}
use Rattle.keep_moves.specs.Move.{Stand, finished, finished_all, moved, remains}
use Rattle.keep_moves.specs.declared.moves.Move.{Move}
use Rattle.keep_moves.proofs.Played.{made_stands}

pub made_finished : (m : Move) (old : Content) → remains (finite.get old) m ≡ true → finite.get (made_in m old) ≡ finished m (finite.get old)
made_finished m old there = made_stands m old there ∙ sym (ap (λ b. cond b (moved m (finite.get old)) (finite.get old)) there)

pub left_finished : (m : Move) (old : Content) → remains (finite.get old) m ≡ false → finite.get old ≡ finished m (finite.get old)
left_finished m old gone = sym (ap (λ b. cond b (moved m (finite.get old)) (finite.get old)) gone)

pub next_finished : (ms : List Move) (i : ℕ) (m : Move) (old new : Content) (all : Stand) → i < length ms → m ≡ get_or ms i m
    → finished_all (drop i ms) (finite.get old) ≡ all → finite.get new ≡ finished m (finite.get old) → finished_all (drop (i + 1) ms) (finite.get new) ≡ all
next_finished ms i m old new all within is so_far made =
    let here : drop i ms ≡ m ∷ drop (i + 1) ms = rw (drop-cons ms i m) (rw (← add-one i) (ap (λ n. n ∷ drop (i + 1) ms) (sym is))) in
    ap (finished_all (drop (i + 1) ms)) made ∙ sym (ap (λ ns. finished_all ns (finite.get old)) here) ∙ so_far
