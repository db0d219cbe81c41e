-- What commits, undos and redos have in common.
use Rattle.std.proofs.Common.{◌≡◌, ℕ, ◌<◌, ◌==◌, nat_lt, false, List, [], ◌∷◌, ◌++◌, map, Option, Some, None, refl, sym, ap, ◌∙◌, arith, append_assoc}
use Rattle.std.specs.List.{AllByRecursion, find}
use Rattle.std.specs.Option.{option_map, option_map_or}
use Rattle.keep_change.specs.Fold.{Numbered}
use Rattle.keep_change.specs.NamedBytes.{NamedBytes}
use Rattle.keep_change.specs.declared.change.Change.{Change}
use Rattle.keep_change.specs.declared.change.PackMark.{PackMark}
use Rattle.keep_journal.specs.History.{change_of, final_by, final_number, marks_by, FitsBy, IsNumbered}
use Rattle.keep_journal.specs.Journal.{Journal, posted}
use Rattle.keep_journal.specs.declared.event.EventKind.{EventKind}
use Rattle.keep_journal.specs.declared.event.EventKind.TheVariants.{Commit, Undo, Redo, Empty}
use Rattle.keep_journal.proofs.Commits.{committed-Redo, committed-Undo}
use Rattle.keep_journal.specs.Lasting.{lasts_by}
use Rattle.keep_entries.specs.Laws.{HasMarksInOrder}
use Rattle.keep_shelf.specs.declared.key.Key.TheVariants.{Entry}
use Rattle.keep_moves.specs.Lists.{back_of, moves_by, out_of, put_of, redo_moves, undo_moves}
use Rattle.keep_moves.specs.Move.{AllApart, Stand, finished_all, uses}
use Rattle.keep_moves.specs.declared.moves.Move.{Move}
use Rattle.keep_moves.proofs.Erased.{all_append}
use Rattle.keep_reading.specs.Settled.{settled_by}
use Rattle.keep_reading.specs.Due.{BelongsBy, IsAmong}
use Rattle.keep_reading.specs.Laws.{is_emptying}

-- the move uses no entry's key
abbrev pub IsOff : Move → Type 0
IsOff m = (k : ℕ) → uses m (Entry k) ≡ false

all_off : (f : NamedBytes → Move) → ((x : NamedBytes) → IsOff (f x)) → (xs : List NamedBytes) → AllByRecursion IsOff (map f xs)
all_off f off [] = tt
all_off f off (x ∷ xs) = (off x, all_off f off xs)

two_off : (f g : NamedBytes → Move) → ((x : NamedBytes) → IsOff (f x)) → ((x : NamedBytes) → IsOff (g x)) → (xs ys : List NamedBytes) → AllByRecursion IsOff (map f xs ++ map g ys)
two_off f g off out xs ys = all_append IsOff (map f xs) (map g ys) (all_off f off xs) (all_off g out ys)

undo_off : (n : ℕ) (o : Option Change) → AllByRecursion IsOff (option_map_or (undo_moves n) o [])
undo_off n None = tt
undo_off n (Some c) = two_off (out_of n) (back_of n) (λ x k. refl) (λ x k. refl) c.adds c.drops

redo_off : (n : ℕ) (o : Option Change) → AllByRecursion IsOff (option_map_or (redo_moves n) o [])
redo_off n None = tt
redo_off n (Some c) = two_off (back_of n) (out_of n) (λ x k. refl) (λ x k. refl) c.adds c.drops

-- an event of this kind makes nothing final, and its moves are all that is left of it to be made
pub record IsPlain (n : ℕ) (kind : EventKind) : Type 0 where
  pub final : (b : ℕ) → final_by b n kind ≡ b
  pub marks : (o : Option (List PackMark)) → marks_by o kind ≡ o
  pub told : (f : ℕ) → lasts_by f n kind ≡ nat_lt f n
  pub above : (j : Journal) → IsNumbered j → FitsBy j n kind → final_number j < n
  pub order : (j : Journal) → HasMarksInOrder j kind
  pub off : (j : Journal) → AllByRecursion IsOff (moves_by j n kind)
  pub same : (i j : Journal) (k : ℕ) → change_of i n ≡ change_of (posted j k (record { number = n; kind = kind })) n → moves_by i n kind ≡ moves_by j n kind
  pub settles : (j : Journal) (g : Stand) → settled_by j n kind g ≡ finished_all (moves_by j n kind) g
  pub belongs : (j : Journal) (m : Move) → IsAmong (moves_by j n kind) m → BelongsBy j n kind m

pub plain : (n : ℕ) (kind : EventKind) → is_emptying kind ≡ false → IsPlain n kind
plain n (Commit c) it = record {
  final = λ b. refl;
  marks = λ o. refl;
  told = λ f. refl;
  above = λ j numbered fits. omega (arith, numbered.last_final, fits);
  order = λ j. tt;
  off = λ j. two_off put_of (out_of n) (λ x k. refl) (λ x k. refl) c.adds c.drops;
  same = λ i j k is. refl;
  settles = λ j g. refl;
  belongs = λ j m among. among;
}
plain n Undo it = record {
  final = λ b. refl;
  marks = λ o. refl;
  told = λ f. refl;
  above = λ j numbered fits. fits.0;
  order = λ j. tt;
  off = λ j. undo_off n (change_of j n);
  same = λ i j k is. ap (λ o. option_map_or (undo_moves n) o []) (is ∙ ap (λ cs. option_map (λ (c : Numbered). c.change) (find (λ (c : Numbered). c.number == n) cs)) (committed-Undo j k n));
  settles = λ j g. refl;
  belongs = λ j m among. among;
}
plain n Redo it = record {
  final = λ b. refl;
  marks = λ o. refl;
  told = λ f. refl;
  above = λ j numbered fits. fits.0;
  order = λ j. tt;
  off = λ j. redo_off n (change_of j n);
  same = λ i j k is. ap (λ o. option_map_or (redo_moves n) o []) (is ∙ ap (λ cs. option_map (λ (c : Numbered). c.change) (find (λ (c : Numbered). c.number == n) cs)) (committed-Redo j k n));
  settles = λ j g. refl;
  belongs = λ j m among. among;
}
plain n (Empty marks) it = cc it

-- each of some moves is among them
pub all_among : (ms : List Move) → AllApart ms → AllByRecursion IsOff ms → AllByRecursion (IsAmong ms) ms
all_among ms apart off = from [] ms refl off
  where
    from : (before later : List Move) → ms ≡ before ++ later → AllByRecursion IsOff later → AllByRecursion (IsAmong ms) later
    from before [] is none = tt
    from before (m ∷ later) is all = (
      record { before = before; later = later; is = is; apart = apart; off = all.0 },
      from (before ++ m ∷ []) later (is ∙ sym (append_assoc before (m ∷ []) later)) all.1,
    )
