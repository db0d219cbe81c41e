-- The undo of the last commit.
use Rattle.std.proofs.Common.{◌≡◌, ℕ, ◌+◌, ◌≤◌, Bool, true, false, not, ◌&&◌, List, None, Result, Ok, Err, inl, inr, refl, sym, subst, ap, ◌∙◌, arith, eqb, append-nil}
use Rattle.std.specs.Prelude.{nat_lt, nat_le, ◌≢◌, OnOk}
use Rattle.std.proofs.lemmas.Bool.Decides.{nat_tests}
use Rattle.keep_change.specs.Fold.{fold_of, first_break}
use Rattle.keep_change.specs.declared.change.Change.{Change}
use Rattle.keep_journal.specs.History.{IsNumbered, final_number, is_change, is_in_force, last_change}
use Rattle.keep_journal.specs.Journal.{Journal, posted}
use Rattle.keep_journal.specs.Kept.{is_kept, kept, others}
use Rattle.keep_journal.specs.Event.{committing}
use Rattle.keep_journal.proofs.Chosen.{chosen-Commit, chosen_agree_on}
use Rattle.keep_journal.proofs.Kept.{is_kept-Commit}
use Rattle.keep_hooks.specs.Guards.{Rule}
use Rattle.keep_ledger.specs.LedgerState.{LedgerState, JustCommitted}
use Rattle.keep_ledger.specs.Reply.{RefusesOrTells, Replies, Restores, is_full, state_after, told_of, undo_refusal}
use Rattle.keep_ledger.specs.declared.reply.Refusal.{Refusal}
use Rattle.keep_ledger.specs.declared.reply.Refusal.TheVariants.{LeanedOn}
use Rattle.keep_journal.specs.declared.request.Told.{Told}
use Rattle.keep_journal.specs.declared.request.Request.TheVariants.{Undo}
use Rattle.keep_ledger.proofs.Replying.{left_by_undo, undo_answers}

not_itself : (n : ℕ) (b : Bool) → (b && not (eqb n n)) ≡ false
not_itself n true = grind (arith, nat_tests)
not_itself n false = refl

module _ (j : Journal) (numbered : IsNumbered j) (k n : ℕ) (c : Change) (next : n ≡ last_change j + 1) where
  apart : (m : ℕ) → m ≤ last_change j → eqb n m ≡ false
  apart m within = grind (arith, nat_tests)

  apart_back : (m : ℕ) → m ≤ last_change j → eqb m n ≡ false
  apart_back m within = grind (arith, nat_tests)

  with_true : (b : Bool) → (b && true) ≡ b
  with_true true = refl
  with_true false = refl

  same_test : (m : ℕ) → m ≤ last_change j → (is_kept (posted j k (committing n c)) m && not (eqb m n)) ≡ is_kept j m
  same_test m within = rw (is_kept-Commit j k n c m, apart m within, apart_back m within) (with_true (is_in_force j m && nat_lt (final_number j) m))

  pub others-Commit : others (posted j k (committing n c)) n ≡ kept j
  others-Commit =
      let test : ℕ → Bool = λ m. is_kept (posted j k (committing n c)) m && not (eqb m n) in
      chosen-Commit test j k n c
      ∙ rw (not_itself n (is_kept (posted j k (committing n c)) n)) (append-nil _)
      ∙ chosen_agree_on test (is_kept j) j numbered (λ m positive within. same_test m within)

-- an undo that breaks nothing isn't refused for what leans on the change
never_leaned_on : (j : Journal) (n m : ℕ) (told : Told) (reply : Result Told Refusal) → RefusesOrTells (undo_refusal j n None) told reply → reply ≢ Err (LeanedOn m)
never_leaned_on j n m told reply answers is_leaned = split (is_change j n) refl (nat_le n (final_number j)) refl (is_in_force j n) refl (is_full j) refl where
  split : (k : Bool) → is_change j n ≡ k → (f : Bool) → nat_le n (final_number j) ≡ f → (i : Bool) → is_in_force j n ≡ i → (u : Bool) → is_full j ≡ u → ⊥
  split false k f fe i ie u ue = cc (rw k at answers, is_leaned)
  split true k true fe i ie u ue = cc (rw (k, fe) at answers, is_leaned)
  split true k false fe false ie u ue = cc (rw (k, fe, ie) at answers, is_leaned)
  split true k false fe true ie true ue = cc (rw (k, fe, ie, ue) at answers, is_leaned)
  split true k false fe true ie false ue = elim (rw (k, fe, ie, ue) at answers) [ inl ok ↦ cc (ok, is_leaned) | inr memory ↦ cc (memory, is_leaned) ]

-- what the undo of a commit that was just accepted replies and leaves
pub restored : (before now : LedgerState) (rules : List Rule) (n : ℕ) (reply : Result Told Refusal) (after : LedgerState) → JustCommitted before n now
    → Replies now rules (Undo n) reply → after ≡ state_after now (Undo n) reply → Restores before.live reply after.live
restored before now rules n reply after just replies same =
    let left : others now.events n ≡ kept before.events =
    ap (λ (j : Journal). others j n) just.events ∙ others-Commit before.events just.is_open.numbered _ n just.change just.next in
    let unbroken : first_break (others now.events n) now.opening ≡ None = rw (left, just.opening) just.is_open.unbroken in
    let made : fold_of (others now.events n) now.opening ≡ before.live = rw (left, just.opening) (sym just.is_open.state) in (
      λ m. never_leaned_on now.events n m (told_of now.events (Undo n)) reply (subst (λ broken. RefusesOrTells (undo_refusal now.events n broken) (told_of now.events (Undo n)) reply) unbroken (undo_answers now rules n reply replies)),
      on_ok reply (left_by_undo now n reply after same) made,
    )
  where
    on_ok : (r : Result Told Refusal) → OnOk r (after.live ≡ fold_of (others now.events n) now.opening)
        → fold_of (others now.events n) now.opening ≡ before.live → OnOk r (after.live ≡ before.live)
    on_ok (Err refusal) left made = tt
    on_ok (Ok told) left made = left ∙ made
