-- Undos one after another, of what has to be taken back with a change.
use Rattle.std.proofs.Common.{◌≡◌, ◌∙◌, ℕ, Bool, true, false, List, [], ◌∷◌, ◌++◌, Option, Some, None, Ok, inl, inr, ap, arith, cond, refl, subst}
use Rattle.std.specs.Prelude.{if◌then◌else◌, nat_le, nat_lt}
use Rattle.std.specs.Cmp.{first_so, second_so}
use Rattle.std.proofs.lemmas.Bool.Decides.{nat_tests}
use Rattle.std.specs.Option.{option_or}
use Rattle.keep_change.specs.Fold.{first_leaning, fold_of}
use Rattle.keep_change.specs.declared.change.Change.{Change}
use Rattle.keep_hooks.specs.Guards.{Rule}
use Rattle.keep_journal.specs.History.{IsNumbered, change_of, final_number, is_change, is_in_force}
use Rattle.keep_journal.specs.Journal.{Journal}
use Rattle.keep_journal.specs.Kept.{is_kept, kept, later}
use Rattle.keep_journal.specs.Opening.{IsOpen}
use Rattle.keep_journal.proofs.Later.{a_kept_change}
use Rattle.keep_journal.proofs.Numbers.{is_change_found}
use Rattle.keep_touch.specs.Taken.{IsTaken, itself, leaning}
use Rattle.keep_touch.specs.Undone.{kept_without, undone_in}
use Rattle.keep_ledger.specs.Dependents.{leaned_on}
use Rattle.keep_ledger.specs.LedgerState.{LedgerState}
use Rattle.keep_ledger.specs.Made.{with_event}
use Rattle.keep_ledger.specs.Reply.{RefusesOrTells, Replies, early_refusal, is_full, told_of, undo_refusal}
use Rattle.keep_ledger.specs.Request.{CanBeMade}
use Rattle.keep_ledger.specs.declared.reply.Refusal.{Refusal}
use Rattle.keep_ledger.specs.declared.reply.Refusal.TheVariants.{Full}
use Rattle.keep_journal.specs.declared.request.Told.{Told}
use Rattle.keep_journal.specs.declared.request.Request.TheVariants.{Undo}
use Rattle.keep_ledger.proofs.Doing.{made-Undo}
use Rattle.keep_ledger.proofs.Replying.{undo_answers}
use Rattle.keep_ledger.proofs.Undoing.{above_final, kept_is_there, same_undo_refusal}
use Rattle.keep_touch.proofs.Leaning.{next_taken, still_kept, unleaned}
use Rattle.keep_touch.proofs.Undoing.{change_of-undone, kept-undone}
use Rattle.keep_book.specs.Cascade.{AreUndone, NothingLeansOnTheNext, taken_refusal, with_undos}

-- the ledger is open
abbrev pub IsOpenState : LedgerState → Type 0
IsOpenState b = IsOpen b.opening b.events b.live

-- ---- what an accepted undo says, and leaves

told_is : (r : Option Refusal) (told t : Told) → RefusesOrTells r told (Ok t) → (r ≡ None) × (t ≡ told)
told_is None told t (inl said) = (refl, cc said)
told_is None told t (inr memory) = cc memory
told_is (Some refusal) told t said = cc said

-- nothing objected to it
pub accepted_free : (b : LedgerState) (rules : List Rule) (m : ℕ) (t : Told) → Replies b rules (Undo m) (Ok t) → early_refusal b (Undo m) ≡ None
accepted_free b rules m t replies = (told_is (early_refusal b (Undo m)) (told_of b.events (Undo m)) t (undo_answers b rules m (Ok t) replies)).0

-- it was told of its event
pub accepted_told : (b : LedgerState) (rules : List Rule) (m : ℕ) (t : Told) → Replies b rules (Undo m) (Ok t)
    → Replies b [] (Undo m) (Ok (told_of b.events (Undo m)))
accepted_told b rules m t replies =
    subst (λ told. Replies b [] (Undo m) (Ok told))
    (told_is (early_refusal b (Undo m)) (told_of b.events (Undo m)) t (undo_answers b rules m (Ok t) replies)).1 replies

-- the ledger is open after it
open_undo : (b : LedgerState) (m : ℕ) → IsOpenState b → Replies b [] (Undo m) (Ok (told_of b.events (Undo m))) → IsOpenState (with_event b (Undo m))
open_undo b m is replies =
    let can_be : CanBeMade b (Undo m) = record {
      begins = record { formed = tt; free = accepted_free b [] m (told_of b.events (Undo m)) replies };
      free = refl;
    } in
    let made = (made-Undo b is m can_be).2 in
    subst (IsOpen b.opening (with_event b (Undo m)).events) made.state made

-- ---- many of them

pub opening_undone : (b : LedgerState) (ms : List ℕ) → (with_undos b ms).opening ≡ b.opening
opening_undone b [] = refl
opening_undone b (m ∷ ms) = opening_undone (with_event b (Undo m)) ms

pub events_undone : (b : LedgerState) (ms : List ℕ) → (with_undos b ms).events ≡ undone_in b.events ms
events_undone b [] = refl
events_undone b (m ∷ ms) = events_undone (with_event b (Undo m)) ms

pub open_undone : (b : LedgerState) (ms : List ℕ) → IsOpenState b → AreUndone b ms → IsOpenState (with_undos b ms)
open_undone b [] is undone = is
open_undone b (m ∷ ms) is undone = open_undone (with_event b (Undo m)) ms (open_undo b m is undone.0) undone.1

-- the others are left
pub others_left : (b : LedgerState) (ms : List ℕ) → IsOpenState b → AreUndone b ms
    → (with_undos b ms).live ≡ fold_of (kept_without b.events ms) b.opening
others_left b ms is undone =
    (open_undone b ms is undone).state
    ∙ ap (λ j. fold_of (kept j) (with_undos b ms).opening) (events_undone b ms)
    ∙ ap (fold_of (kept (undone_in b.events ms))) (opening_undone b ms)
    ∙ ap (λ ns. fold_of ns b.opening) (kept-undone b.events ms)

-- one more at the end
pub with_one_more : (b : LedgerState) (ms : List ℕ) (m : ℕ) → with_undos b (ms ++ m ∷ []) ≡ with_event (with_undos b ms) (Undo m)
with_one_more b [] m = refl
with_one_more b (k ∷ ms) m = with_one_more (with_event b (Undo k)) ms m

pub undone_one_more : (b : LedgerState) (ms : List ℕ) (m : ℕ) → AreUndone b ms
    → Replies (with_undos b ms) [] (Undo m) (Ok (told_of (with_undos b ms).events (Undo m))) → AreUndone b (ms ++ m ∷ [])
undone_one_more b [] m undone replies = (replies, tt)
undone_one_more b (k ∷ ms) m undone replies = (undone.0, undone_one_more (with_event b (Undo k)) ms m undone.1 replies)

-- ---- the next one

-- what is known of change n where nothing but what leans on it objects
pub record IsFree (j : Journal) (n : ℕ) : Type 0 where
  pub change : is_change j n ≡ true
  pub above : nat_le n (final_number j) ≡ false
  pub in_force : is_in_force j n ≡ true

pub is_free : (j : Journal) (n : ℕ) → taken_refusal j n ≡ None → IsFree j n
is_free j n none = split (is_change j n) refl (nat_le n (final_number j)) refl (is_in_force j n) refl where
  split : (k : Bool) → is_change j n ≡ k → (f : Bool) → nat_le n (final_number j) ≡ f → (i : Bool) → is_in_force j n ≡ i → IsFree j n
  split false k f fe i ie = cc (rw k at none)
  split true k true fe i ie = cc (rw (k, fe) at none)
  split true k false fe false ie = cc (rw (k, fe, ie) at none)
  split true k false fe true ie = record { change = k; above = fe; in_force = ie }

pub kept_where_free : (j : Journal) (n : ℕ) → IsFree j n → is_kept j n ≡ true
kept_where_free j n free = rw (free.in_force, above_final (final_number j) n free.above) refl

-- the refusal of an undo of a change in force on which nothing leans
room_alone : (j : Journal) (n : ℕ) → IsFree j n → undo_refusal j n None ≡ (if is_full j then Some Full else None)
room_alone j n free = rw (free.change, free.above, free.in_force) (split (is_full j)) where
  split : (full : Bool) → option_or (cond full (Some Full) None) None ≡ cond full (Some Full) None
  split true = refl
  split false = refl

-- each of those that have to be taken back is one of the journal's
taken_is_there : (j : Journal) (n : ℕ) → IsNumbered j → IsFree j n → (m : ℕ) → IsTaken j n m → (c : Change) × (change_of j m ≡ Some c)
taken_is_there j n numbered free _ itself = kept_is_there j n numbered free.change (kept_where_free j n free)
taken_is_there j n numbered free _ (leaning k m taken leans) = (leans.change, (a_kept_change j m leans.change leans.is_m).1)

not_final : (f m : ℕ) → nat_lt f m ≡ true → nat_le m f ≡ false
not_final f m h = grind (arith, nat_tests)

-- a kept change is free
free_where_kept : (j : Journal) (m : ℕ) (c : Change) → IsNumbered j → change_of j m ≡ Some c → is_kept j m ≡ true → IsFree j m
free_where_kept j m c numbered found in_it = record {
  change = is_change_found j m c numbered found;
  above = not_final (final_number j) m (second_so (is_in_force j m) (nat_lt (final_number j) m) in_it);
  in_force = first_so (is_in_force j m) (nat_lt (final_number j) m) in_it;
}

-- where no other leans on it, its undo is refused only where there is no room
free_undo : (b : LedgerState) (m : ℕ) (c : Change) → IsOpenState b → change_of b.events m ≡ Some c → is_kept b.events m ≡ true
    → first_leaning c (later b.events m) ≡ None → early_refusal b (Undo m) ≡ (if is_full b.events then Some Full else None)
free_undo b m c is found in_it alone =
    let nobody : leaned_on b.events m ≡ None = rw found alone in
    same_undo_refusal b.opening b.events b.live is m
    ∙ ap (undo_refusal b.events m) nobody
    ∙ room_alone b.events m (free_where_kept b.events m c is.numbered found in_it)

pub nothing_leans : NothingLeansOnTheNext
nothing_leans b n done next left is none taken undone =
    let now = with_undos b done in
    let same = events_undone b done in
    let free = is_free b.events n none in
    let first = kept_where_free b.events n free in
    let there = taken_is_there b.events n is.numbered free next (next_taken b.events n done next left taken) in
    let found : change_of now.events next ≡ Some there.0 = ap (λ j. change_of j next) same ∙ change_of-undone b.events done next ∙ there.1 in
    let in_it : is_kept now.events next ≡ true = ap (λ j. is_kept j next) same ∙ still_kept b.events n done next left first taken in
    let alone : first_leaning there.0 (later now.events next) ≡ None =
    ap (λ j. first_leaning there.0 (later j next)) same ∙ unleaned b.events n done next left there.0 is.numbered taken there.1 in
    free_undo now next there.0 (open_undone b done is undone) found in_it alone ∙ ap (λ j. if is_full j then Some Full else None) same
