-- How many calls there are.
use Rattle.std.proofs.Common.{◌≡◌, ℕ, ◌+◌, List, [], ◌∷◌, ◌++◌, length, map, ap, arith, ◌∙◌}
use Rattle.std.specs.Option.{option_map_or}
use Rattle.std.proofs.lemmas.List.{length-append, length-map, length-replicate, length_push}
use Rattle.keep_change.specs.declared.change.Change.{Change}
use Rattle.keep_journal.specs.Event.{committing, emptying, redoing, undoing}
use Rattle.keep_journal.specs.Journal.{Journal}
use Rattle.keep_journal.specs.declared.event.Event.{Event}
use Rattle.keep_shelf.specs.Shelved.{called}
use Rattle.keep_moves.specs.Calls.{Look, Make, left_by, looks}
use Rattle.keep_moves.specs.Course.{entry_put}
use Rattle.keep_moves.specs.Laws.{CallsAreCounted, CallsAreRecorded}
use Rattle.keep_moves.specs.Lists.{back_of, commit_moves, out_of, put_of, redo_moves, swept_keys, undo_moves}
use Rattle.keep_moves.specs.declared.moves.Move.{Move}
use Rattle.keep_moves.specs.declared.moves.Move.TheVariants.{Erase}

pub calls_recorded : CallsAreRecorded
calls_recorded [] s = omega arith
calls_recorded (call ∷ calls) s =
    omega (arith, calls_recorded calls (called s (left_by s.content call)), length_push s.calls (left_by s.content call))

two_lists : {A B X : Type 0} (f : A → X) (g : B → X) (xs : List A) (ys : List B) → length (map f xs ++ map g ys) ≡ length xs + length ys
two_lists f g xs ys = omega (arith, length-append (map f xs) (map g ys), length-map xs f, length-map ys g)

parts : (i : ℕ) (k : ℕ) (e : Event) (ms : List Move) → length (looks i ++ Make (entry_put k e) ∷ map Make ms) ≡ i + (1 + length ms)
parts i k e ms =
    let front : length (looks i) ≡ i = length-replicate i Look in
    omega (arith, front, length-append (looks i) (Make (entry_put k e) ∷ map Make ms), length-map ms Make)

pub calls_counted : (j : Journal) (k n : ℕ) → CallsAreCounted j k n
calls_counted j k n = record {
  commit = λ c. omega (arith, parts 0 k (committing n c) (commit_moves n c), two_lists put_of (out_of n) c.adds c.drops);
  undo = λ c is_c.
      ap (λ o. length (looks (option_map_or (λ (d : Change). length d.drops) o 0) ++ Make (entry_put k (undoing n)) ∷ map Make (option_map_or (undo_moves n) o []))) is_c
      ∙ omega (arith, parts (length c.drops) k (undoing n) (undo_moves n c), two_lists (out_of n) (back_of n) c.adds c.drops);
  redo = λ c is_c.
      ap (λ o. length (looks (option_map_or (λ (d : Change). length d.adds) o 0) ++ Make (entry_put k (redoing n)) ∷ map Make (option_map_or (redo_moves n) o []))) is_c
      ∙ omega (arith, parts (length c.adds) k (redoing n) (redo_moves n c), two_lists (back_of n) (out_of n) c.adds c.drops);
  empty = λ marks. omega (arith, parts 0 k (emptying n marks) (map Erase (swept_keys j n)), length-map (swept_keys j n) Erase);
}
