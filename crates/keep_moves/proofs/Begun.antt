-- The entry of a commit, an undo or a redo is put: its moves can be made, and lead to what it leaves.
use Rattle.std.proofs.Common.{◌≡◌, ℕ, ◌+◌, ◌<◌, ◌≤◌, ◌==◌, nat_le, nat_lt, Bool, true, false, cond, not, ◌||◌, ◌&&◌, inl, inr, List, [], ◌∷◌, map, Option, Some, None, refl, sym, ap, ◌∙◌, arith, subst}
use Rattle.std.specs.List.{filter_map, find}
use Rattle.std.specs.Option.{option_and_then, option_map, option_map_or, option_or}
use Rattle.std.proofs.lemmas.Bool.{and_right, cases_eq, eq-eqb, lt-leb, ne_eqb}
use Rattle.std.proofs.lemmas.List.Folds.{find-append}
use Rattle.keep_names.specs.declared.file_name.FileName.{FileName}
use Rattle.keep_repo.specs.Repository.{Repository, held}
use Rattle.keep_repo.specs.declared.facet.Facet.TheVariants.{File}
use Rattle.keep_change.specs.Change.{Holding, Written, replaced, reversed, written}
use Rattle.keep_change.specs.Fold.{Numbered}
use Rattle.keep_change.specs.Form.{HasNoFacetTwice}
use Rattle.keep_change.specs.Result.{result_of, reverse_of}
use Rattle.keep_change.specs.Touch.{after_of, before_of}
use Rattle.keep_change.specs.declared.change.Change.{Change}
use Rattle.keep_change.proofs.Carry.{held-result_of, held-reverse_of, writes_once}
use Rattle.keep_change.proofs.History.{is_ready-reverse}
use Rattle.keep_change.proofs.Records.{WritesOnce}
use Rattle.keep_journal.specs.Event.{committing, redoing, undoing}
use Rattle.keep_journal.specs.History.{change_of, committed, final_number, is_in_force, last_change}
use Rattle.keep_journal.specs.Journal.{Journal, posted}
use Rattle.keep_journal.specs.declared.event.Event.{Event}
use Rattle.keep_journal.proofs.Commits.{change_of-Commit, committed-Commit, committed-Redo, committed-Undo, final_number-push, is_in_force-push, no_change}
use Rattle.keep_shelf.specs.declared.key.Key.TheVariants.{Live, Trash}
use Rattle.keep_moves.specs.Behind.{IsBehind}
use Rattle.keep_moves.specs.Course.{with_entry}
use Rattle.keep_moves.specs.Laws.{CommitIsBegun, RedoIsBegun, UndoIsBegun}
use Rattle.keep_moves.specs.Lists.{redo_moves, undo_moves}
use Rattle.keep_moves.specs.Move.{Stand, moved_all}
use Rattle.keep_moves.specs.Standing.{HoldsFiles, file_bytes, trashed}
use Rattle.keep_moves.proofs.About.{is_about, left_by_all, move_of}
use Rattle.keep_moves.proofs.Listed.{after_reversed, before_reversed, commit_listed, redo_listed, reversed_turn, undo_listed, written_turns}
use Rattle.keep_moves.proofs.Turned.{CanTurn, before_in, bytes_held, can_make, live_after, trash_after}

-- ---- the trash of a change

pub trashed_as : (j : Journal) (n : ℕ) (c : Change) (b : Bool) (name : FileName) → final_number j < n → change_of j n ≡ Some c → is_in_force j n ≡ b
    → trashed j n name ≡ file_bytes (cond b (before_of c (File name)) (after_of c (File name)))
trashed_as j n c b name above is_c force =
    ap (λ t. cond t None (option_and_then (λ (d : Change). file_bytes (cond (is_in_force j n) (before_of d (File name)) (after_of d (File name)))) (change_of j n))) (lt-leb n (final_number j) above)
    ∙ ap (option_and_then (λ (d : Change). file_bytes (cond (is_in_force j n) (before_of d (File name)) (after_of d (File name))))) is_c
    ∙ ap (λ t. file_bytes (cond t (before_of c (File name)) (after_of c (File name)))) force

pub trashed_none : (j : Journal) (n : ℕ) (name : FileName) → change_of j n ≡ None → trashed j n name ≡ None
trashed_none j n name none = by (nat_le n (final_number j)) (option_and_then (λ (d : Change). file_bytes (cond (is_in_force j n) (before_of d (File name)) (after_of d (File name)))) (change_of j n)) (ap (option_and_then (λ (d : Change). file_bytes (cond (is_in_force j n) (before_of d (File name)) (after_of d (File name))))) none)
  where
    by : (b : Bool) (o : Option (List ℕ)) → o ≡ None → cond b None o ≡ None
    by true o e = refl
    by false o e = e

-- what it has depends on the final number, and on the change and whether it is in force
pub trashed_same : (j i : Journal) (n : ℕ) (name : FileName) → nat_le n (final_number i) ≡ nat_le n (final_number j) → is_in_force i n ≡ is_in_force j n → change_of i n ≡ change_of j n → trashed i n name ≡ trashed j n name
trashed_same j i n name final force change =
    ap (λ t. cond t None (option_and_then (λ (d : Change). file_bytes (cond (is_in_force i n) (before_of d (File name)) (after_of d (File name)))) (change_of i n))) final
    ∙ ap (λ t. cond (nat_le n (final_number j)) None (option_and_then (λ (d : Change). file_bytes (cond t (before_of d (File name)) (after_of d (File name)))) (change_of i n))) force
    ∙ ap (λ o. cond (nat_le n (final_number j)) None (option_and_then (λ (d : Change). file_bytes (cond (is_in_force j n) (before_of d (File name)) (after_of d (File name)))) o)) change

-- ---- an event about change n, of which the trash of another change says nothing

record IsAbout (j i : Journal) (n : ℕ) : Type 0 where
  final : final_number i ≡ final_number j
  force : (m : ℕ) → (m ≡ n → ⊥) → is_in_force i m ≡ is_in_force j m
  change : (m : ℕ) → (m ≡ n → ⊥) → change_of i m ≡ change_of j m

module _ (first : Bool) (j : Journal) (k n : ℕ) (e : Event) (ws : List Written) (live after : Repository) (g : Stand)
    (is : HoldsFiles j live g) (about : IsAbout j (posted j k e) n)
    (can : CanTurn first n ws live (with_entry k e g)) (made : held after ≡ replaced ws (held live))
    (trash : (name : FileName) → trashed (posted j k e) n name ≡ before_in ws name) where
  -- the trash of another change
  others_trash : (m : ℕ) (name : FileName) → (m ≡ n → ⊥) → moved_all (filter_map (move_of first n) ws) (with_entry k e g) (Trash m name) ≡ trashed (posted j k e) m name
  others_trash m name other =
      left_by_all first n ws (with_entry k e g) (Trash m name) (λ f. ap (λ b. b && is_about n (Live name) f) (ne_eqb m n other))
      ∙ is.trash m name
      ∙ sym (trashed_same j (posted j k e) m name (ap (nat_le m) about.final) (about.force m other) (about.change m other))

  trash_left : (m : ℕ) (name : FileName) → moved_all (filter_map (move_of first n) ws) (with_entry k e g) (Trash m name) ≡ trashed (posted j k e) m name
  trash_left m name = elim (cases_eq m n) [
    | inl same ↦
        ap (λ x. moved_all (filter_map (move_of first n) ws) (with_entry k e g) (Trash x name)) same
        ∙ trash_after first n ws live (with_entry k e g) can name ∙ sym (trash name)
        ∙ sym (ap (λ x. trashed (posted j k e) x name) same)
    | inr other ↦ others_trash m name other
  ]

  begun : IsBehind (posted j k e) after (filter_map (move_of first n) ws) (with_entry k e g)
  begun = record {
    can = can_make first n ws live (with_entry k e g) can;
    rest = record {
      files = λ name.
          live_after first n ws live (with_entry k e g) can name
          ∙ sym (ap (λ (h : Holding). file_bytes (h (File name))) made) ∙ bytes_held after name;
      trash = trash_left;
    };
  }

-- ---- a commit

change_of-other : (j : Journal) (k n : ℕ) (c : Change) (m : ℕ) → (m ≡ n → ⊥) → change_of (posted j k (committing n c)) m ≡ change_of j m
change_of-other j k n c m other =
    let none : (n == m) ≡ false = ne_eqb n m (λ same. other (sym same)) in
    ap (λ ns. option_map (λ (d : Numbered). d.change) (find (λ d. d.number == m) ns)) (committed-Commit j k n c)
    ∙ ap (option_map (λ (d : Numbered). d.change)) (find-append (λ (d : Numbered). d.number == m) (committed j) (record { number = n; change = c } ∷ []))
    ∙ ap (λ b. option_map (λ (d : Numbered). d.change) (option_or (find (λ (d : Numbered). d.number == m) (committed j)) (cond b (Some (record { number = n; change = c })) None))) none
    ∙ ap (option_map (λ (d : Numbered). d.change)) (or_none (find (λ (d : Numbered). d.number == m) (committed j)))
  where
    or_none : (o : Option Numbered) → option_or o None ≡ o
    or_none None = refl
    or_none (Some x) = refl

pub commit_begun : CommitIsBegun
commit_begun j k n c live g numbered next once ready is =
    let e : Event = committing n c in
    let top : final_number j ≤ last_change j = numbered.last_final in
    let number : n ≡ last_change j + 1 = next.fits in
    let above : final_number j < n = omega arith in
    let absent : (nat_lt j.base n && nat_le n (last_change j)) ≡ false = ap (λ b. nat_lt j.base n && b) (lt-leb n (last_change j) (omega arith)) ∙ and_right (nat_lt j.base n) false refl in
    let empty = no_change j n numbered absent in
    let final : final_number (posted j k e) ≡ final_number j = final_number-push j k e in
    let force : is_in_force (posted j k e) n ≡ true = is_in_force-push j k e n ∙ ap (λ b. b || is_in_force j n) (eq-eqb n n refl) in
    subst (λ ms. IsBehind (posted j k e) (result_of c live) ms (with_entry k e g)) (commit_listed n c)
    (begun true j k n e (written c) live (result_of c live) g is
    (record {
      final = final;
      force = λ m other. is_in_force-push j k e m ∙ ap (λ b. b || is_in_force j m) (ne_eqb n m (λ same. other (sym same)));
      change = λ m other. change_of-other j k n c m other;
    })
    (record {
      once = writes_once c once;
      turn = written_turns c;
      ready = ready;
      lives = is.files;
      trash = λ name. is.trash n name ∙ trashed_none j n name empty;
    })
    (held-result_of c (writes_once c once) live)
    (λ name. trashed_as (posted j k e) n c true name (subst (λ f. f < n) (sym final) above) (change_of-Commit j k n c numbered number) force))

-- ---- an undo

reversed_once : (c : Change) → HasNoFacetTwice c → WritesOnce (map reversed (written c))
reversed_once c once = by (written c) (writes_once c once)
  where
    same : (ws : List Written) → map (λ w. w.facet) (map reversed ws) ≡ map (λ w. w.facet) ws
    same [] = refl
    same (w ∷ ws) = ap (λ fs. w.facet ∷ fs) (same ws)

    by : (ws : List Written) → WritesOnce ws → WritesOnce (map reversed ws)
    by ws h q = rw (same ws) (h q)

pub undo_begun : UndoIsBegun
undo_begun j k n c live g numbered next is_c once ready is =
    let e : Event = undoing n in
    let above : final_number j < n = next.fits.0 in
    let final : final_number (posted j k e) ≡ final_number j = final_number-push j k e in
    let same : change_of (posted j k e) ≡ change_of j = λ i m. option_map (λ (d : Numbered). d.change) (find (λ (d : Numbered). d.number == m) (committed-Undo j k n i)) in
    let undone : is_in_force (posted j k e) n ≡ false = is_in_force-push j k e n ∙ ap (λ b. not b && is_in_force j n) (eq-eqb n n refl) in
    subst (λ ms. IsBehind (posted j k e) (result_of (reverse_of c) live) ms (with_entry k e g)) (undo_listed n c ∙ sym (ap (λ o. option_map_or (undo_moves n) o []) is_c))
    (begun false j k n e (map reversed (written c)) live (result_of (reverse_of c) live) g is
    (record {
      final = final;
      force = λ m other. is_in_force-push j k e m ∙ ap (λ b. not b && is_in_force j m) (ne_eqb n m (λ s. other (sym s)));
      change = λ m other. ap (λ (f : ℕ → Option Change). f m) same;
    })
    (record {
      once = reversed_once c once;
      turn = reversed_turn (written c) ∙ written_turns c;
      ready = sym (is_ready-reverse c (held live)) ∙ ready;
      lives = is.files;
      trash = λ name. is.trash n name ∙ trashed_as j n c true name above is_c next.fits.2 ∙ sym (after_reversed (written c) name);
    })
    (held-reverse_of c (writes_once c once) live)
    (λ name. trashed_as (posted j k e) n c false name (subst (λ f. f < n) (sym final) above) (ap (λ (f : ℕ → Option Change). f n) same ∙ is_c) undone ∙ sym (before_reversed (written c) name)))

-- ---- a redo

pub redo_begun : RedoIsBegun
redo_begun j k n c live g numbered next is_c once ready is =
    let e : Event = redoing n in
    let above : final_number j < n = next.fits.0 in
    let final : final_number (posted j k e) ≡ final_number j = final_number-push j k e in
    let same : change_of (posted j k e) ≡ change_of j = λ i m. option_map (λ (d : Numbered). d.change) (find (λ (d : Numbered). d.number == m) (committed-Redo j k n i)) in
    let force : is_in_force (posted j k e) n ≡ true = is_in_force-push j k e n ∙ ap (λ b. b || is_in_force j n) (eq-eqb n n refl) in
    subst (λ ms. IsBehind (posted j k e) (result_of c live) ms (with_entry k e g)) (redo_listed n c ∙ sym (ap (λ o. option_map_or (redo_moves n) o []) is_c))
    (begun false j k n e (written c) live (result_of c live) g is
    (record {
      final = final;
      force = λ m other. is_in_force-push j k e m ∙ ap (λ b. b || is_in_force j m) (ne_eqb n m (λ s. other (sym s)));
      change = λ m other. ap (λ (f : ℕ → Option Change). f m) same;
    })
    (record {
      once = writes_once c once;
      turn = written_turns c;
      ready = ready;
      lives = is.files;
      trash = λ name. is.trash n name ∙ trashed_as j n c false name above is_c next.fits.2;
    })
    (held-result_of c (writes_once c once) live)
    (λ name. trashed_as (posted j k e) n c true name (subst (λ f. f < n) (sym final) above) (ap (λ (f : ℕ → Option Change). f n) same ∙ is_c) force))
