-- What a check says of the reply.
use Rattle.std.proofs.Common.{◌≡◌, ℕ, ◌+◌, ◌<◌, Bool, true, false, List, [], Option, Some, None, Result, Ok, Err, refl, ap, subst, arith, inl, inr, ◌⊎◌, ◌∙◌}
use Rattle.std.specs.Prelude.{IsSome, MatchOption, OnOk, nat_le, nat_lt}
use Rattle.std.specs.Option.{option_map}
use Rattle.std.proofs.lemmas.Bool.Decides.{nat_tests}
use Rattle.std.specs.Cmp.{first_so, second_so}
use Rattle.keep_repo.specs.Repository.{Repository}
use Rattle.keep_change.specs.Fold.{fold_of, first_break}
use Rattle.keep_journal.specs.History.{change_of, is_change, is_in_force, final_number, length_of, IsNumbered}
use Rattle.keep_journal.specs.Kept.{is_kept, others}
use Rattle.keep_journal.proofs.Kept.{kept-Undo}
use Rattle.keep_change.specs.declared.change.Change.{Change}
use Rattle.keep_journal.proofs.Numbers.{is_change_found}
use Rattle.keep_journal.specs.Journal.{Journal}
use Rattle.keep_change.specs.declared.outline.Outline.{Outline}
use Rattle.keep_hooks.specs.Guards.{Rule, first_refusing}
use Rattle.keep_ledger.specs.Dependents.{Passes}
use Rattle.keep_ledger.specs.Guarding.{Vetoes, event_outline}
use Rattle.keep_ledger.specs.LedgerState.{LedgerState}
use Rattle.keep_ledger.specs.Limits.{event_limit}
use Rattle.keep_ledger.specs.Reply.{Answers, RefusesOrTells, Replies, TakesBack, undo_refusal, empty_refusal, is_full, told_of, state_after}
use Rattle.keep_ledger.specs.declared.reply.Refusal.{Refusal}
use Rattle.keep_ledger.specs.declared.reply.Refusal.TheVariants.{Memory, LeanedOn}
use Rattle.keep_journal.specs.declared.request.Request.TheVariants.{Undo}
use Rattle.keep_journal.specs.declared.request.Told.{Told}
use Rattle.keep_ledger.proofs.Undoing.{above_final_lt}

pub same_error : {A B E : Type 0} (e f : E) → ◌≡◌ {A = Result A E} (Err e) (Err f) → ◌≡◌ {A = Result B E} (Err e) (Err f)
same_error e f h = let same : e ≡ f = cc h in ap Err same

-- a check's refusal is the reply
pub refused : (r : Option Refusal) (e : Refusal) (told : Told) → Passes r (Err e) → RefusesOrTells r told (Err e)
refused None e told h = cc h
refused (Some refusal) e told h = same_error e refusal h

-- a check that objects to nothing leaves no refusal
pub accepted : (r : Option Refusal) → Passes r (Ok tt) → r ≡ None
accepted None h = refl
accepted (Some refusal) h = cc h

pub replies_told : (r : Option Refusal) (told t : Told) → r ≡ None → t ≡ told → RefusesOrTells r told (Ok t)
replies_told None told t none same = inl (ap Ok same)
replies_told (Some refusal) told t none same = cc none

pub replies_memory : (r : Option Refusal) (told : Told) → r ≡ None → RefusesOrTells r told (Err Memory)
replies_memory None told none = inr refl
replies_memory (Some refusal) told none = cc none

-- ---- the same where vetoes are asked

pub refused_early : (early : Option Refusal) (rules : List Rule) (o : Outline) (late : Option Refusal) (e : Refusal) (told : Told)
    → Passes early (Err e) → Answers early rules o late told (Err e)
refused_early None rules o late e told h = cc h
refused_early (Some refusal) rules o late e told h = same_error e refusal h

pub refused_by_veto : (early : Option Refusal) (rules : List Rule) (o : Outline) (late : Option Refusal) (e : Refusal) (told : Told)
    → early ≡ None → Vetoes rules o (Err e) → Answers early rules o late told (Err e)
refused_by_veto early rules o late e told none (inl first) = rw (none, first) (inl refl)
refused_by_veto early rules o late e told none (inr (asked, memory)) = rw (none, memory) (inr (asked, refl))

pub refused_late : (early : Option Refusal) (rules : List Rule) (o : Outline) (late : Option Refusal) (e : Refusal) (told : Told)
    → early ≡ None → first_refusing rules o ≡ None → Passes late (Err e) → Answers early rules o late told (Err e)
refused_late early rules o late e told none first h = rw (none, first) (inl (refused late e told h))

pub no_memory : (early : Option Refusal) (rules : List Rule) (o : Outline) (late : Option Refusal) (told : Told)
    → early ≡ None → first_refusing rules o ≡ None → late ≡ None → Answers early rules o late told (Err Memory)
no_memory early rules o late told none first last = rw (none, first) (inl (replies_memory late told last))

pub answers_told : (early : Option Refusal) (rules : List Rule) (o : Outline) (late : Option Refusal) (told t : Told)
    → early ≡ None → first_refusing rules o ≡ None → late ≡ None → t ≡ told → Answers early rules o late told (Ok t)
answers_told early rules o late told t none first last same = rw (none, first) (inl (replies_told late told t last same))

-- where no vetoes are asked, the early refusal alone decides
pub answers_alone : (early : Option Refusal) (o : Outline) (told : Told) (reply : Result Told Refusal)
    → Answers early [] o None told reply → RefusesOrTells early told reply
answers_alone (Some refusal) o told reply said = said
answers_alone None o told reply (inl said) = said
answers_alone None o told reply (inr (asked, memory)) = absurd (omega (arith, asked))

-- the reply to an undo
pub undo_answers : (b : LedgerState) (rules : List Rule) (n : ℕ) (reply : Result Told Refusal) → Replies b rules (Undo n) reply
    → RefusesOrTells (undo_refusal b.events n (first_break (others b.events n) b.opening)) (told_of b.events (Undo n)) reply
undo_answers b rules n reply replies = answers_alone _ (event_outline b (Undo n)) (told_of b.events (Undo n)) reply (replies.0 tt)

-- ---- single requests

-- an undo of a change in force, where there is room, is refused only where the others can't be made
pub can_be : (j : Journal) (n : ℕ) (broken : Option ℕ) → is_change j n ≡ true → final_number j < n → is_kept j n ≡ true → is_full j ≡ false → undo_refusal j n broken ≡ option_map LeanedOn broken
can_be j n broken change above in_it room =
    let not_final : nat_le n (final_number j) ≡ false = grind (arith, nat_tests) in
    let in_force : is_in_force j n ≡ true = first_so _ _ in_it in
    rw (change, not_final, in_force, room) refl

-- what an emptying that isn't refused knows
pub record CanEmpty (j : Journal) (n : ℕ) : Type 0 where
  pub change : is_change j n ≡ true
  pub above : final_number j < n
  pub room : is_full j ≡ false

pub can_empty : (j : Journal) (n : ℕ) → empty_refusal j n ≡ None → CanEmpty j n
can_empty j n none = split (is_change j n) refl (nat_le n (final_number j)) refl (is_full j) refl where
  split : (k : Bool) → is_change j n ≡ k → (f : Bool) → nat_le n (final_number j) ≡ f → (u : Bool) → is_full j ≡ u → CanEmpty j n
  split false k f fe u ue = cc (rw k at none)
  split true k true fe u ue = cc (rw (k, fe) at none)
  split true k false fe true ue = cc (rw (k, fe, ue) at none)
  split true k false fe false ue = record { change = k; above = above_final_lt (final_number j) n fe; room = ue }

pub full_below : (j : Journal) → length_of j < event_limit → is_full j ≡ false
full_below j room = grind (arith, nat_tests)

-- the reply to an undo of a change in force, where there is room, depends on the others alone
pub taken_back : (b : LedgerState) (rules : List Rule) (n : ℕ) (reply : Result Told Refusal) (left : Repository) → IsNumbered b.events
    → IsSome (change_of b.events n) → is_kept b.events n ≡ true → length_of b.events < event_limit
    → Replies b rules (Undo n) reply
    → OnOk reply (left ≡ fold_of (others b.events n) b.opening)
    → TakesBack b n reply left
taken_back b rules n reply left numbered there in_it room replies made =
    let above : nat_lt (final_number b.events) n ≡ true = second_so _ _ in_it in
    let change = change_found (change_of b.events n) refl there in
    let broken : Option ℕ = first_break (others b.events n) b.opening in
    let none : undo_refusal b.events n broken ≡ option_map LeanedOn broken = can_be b.events n broken change (grind (arith, nat_tests)) in_it (full_below b.events room) in
    split broken (subst (λ r. RefusesOrTells r (told_of b.events (Undo n)) reply) none (undo_answers b rules n reply replies))
  where
    change_found : (o : Option Change) → change_of b.events n ≡ o → IsSome o → is_change b.events n ≡ true
    change_found None e some = cc some
    change_found (Some c) e some = is_change_found b.events n c numbered e

    split : (broken : Option ℕ) → RefusesOrTells (option_map LeanedOn broken) (told_of b.events (Undo n)) reply
        → MatchOption broken
        (((reply ≡ Ok (told_of b.events (Undo n))) ⊎ (reply ≡ Err Memory)) × OnOk reply (left ≡ fold_of (others b.events n) b.opening))
        (λ m. reply ≡ Err (LeanedOn m))
    split None said = (said, made)
    split (Some m) said = said

-- what an undo leaves
pub left_by_undo : (b : LedgerState) (n : ℕ) (reply : Result Told Refusal) (after : LedgerState) → after ≡ state_after b (Undo n) reply
    → OnOk reply (after.live ≡ fold_of (others b.events n) b.opening)
left_by_undo b n (Err refusal) after same = tt
left_by_undo b n (Ok told) after same = ap (λ (a : LedgerState). a.live) same ∙ ap (λ ns. fold_of ns b.opening) (kept-Undo b.events (length_of b.events + 1) n)
