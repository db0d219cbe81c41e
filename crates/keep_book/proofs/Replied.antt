-- What an accepted request says and leaves.
use Rattle.std.proofs.Common.{◌≡◌, ℕ, ◌+◌, List, Option, Some, None, Result, Ok, Err, inl, inr, ap, arith, refl, sym, ◌∙◌}
use Rattle.std.specs.Prelude.{IfOk}
use Rattle.std.specs.Option.{option_map, option_or}
use Rattle.std.proofs.lemmas.Bool.{cases_eq}
use Rattle.keep_repo.specs.Repository.{Repository}
use Rattle.keep_change.specs.Fold.{fold_of}
use Rattle.keep_change.specs.Marks.{marks_of}
use Rattle.keep_change.specs.declared.change.Planned.{Planned}
use Rattle.keep_change.specs.declared.outline.Outline.{Outline}
use Rattle.keep_hooks.specs.Guards.{Rule, first_refusing}
use Rattle.keep_journal.specs.Event.{committing}
use Rattle.keep_journal.specs.History.{last_change, length_of}
use Rattle.keep_journal.specs.Journal.{posted}
use Rattle.keep_journal.specs.Kept.{up_to}
use Rattle.keep_journal.specs.Opening.{IsOpen}
use Rattle.keep_journal.proofs.Numbers.{is_change_parts}
use Rattle.keep_ledger.specs.LedgerState.{JustCommitted, LedgerState}
use Rattle.keep_ledger.specs.Reply.{Answers, IsFormed, RefusesOrTells, Replies, state_after, told_of}
use Rattle.keep_ledger.specs.declared.reply.Refusal.{Refusal}
use Rattle.keep_ledger.specs.declared.reply.Refusal.TheVariants.{Vetoed}
use Rattle.keep_journal.specs.declared.request.Told.{Told}
use Rattle.keep_journal.specs.declared.request.Request.TheVariants.{Commit, Empty}
use Rattle.keep_ledger.proofs.Replying.{can_empty}
use Rattle.keep_ledger.proofs.Steps.{open-Empty}

-- ---- a commit

tells : (r : Option Refusal) (told t : Told) → RefusesOrTells r told (Ok t) → t.number ≡ told.number
tells (Some refusal) told t said = cc said
tells None told t (inl said) = let same : t ≡ told = cc said in ap (λ (x : Told). x.number) same
tells None told t (inr memory) = cc memory

-- what is told of an accepted request has its number
answers_number : (early : Option Refusal) (rules : List Rule) (o : Outline) (late : Option Refusal) (told t : Told)
    → Answers early rules o late told (Ok t) → t.number ≡ told.number
answers_number (Some refusal) rules o late told t said = cc said
answers_number None rules o late told t (inl said) = tells (option_or (option_map Vetoed (first_refusing rules o)) late) told t said
answers_number None rules o late told t (inr (asked, memory)) = cc memory

number_told : (b : LedgerState) (rules : List Rule) (p : Planned) (t : Told) → Replies b rules (Commit p) (Ok t)
    → t.number ≡ last_change b.events + 1
number_told b rules p t replies = elim (cases_eq t.number (last_change b.events + 1)) [
  | inl same ↦ same
  | inr other ↦
      let unformed : ¬ IsFormed (Commit p) = λ formed. other (answers_number _ _ _ _ (told_of b.events (Commit p)) t (replies.0 formed)) in
      cc (replies.1 unformed)
]

-- an accepted commit has just left the ledger so
pub just_committed : (b : LedgerState) (rules : List Rule) (p : Planned) (reply : Result Told Refusal) (after : LedgerState)
    → IsOpen b.opening b.events b.live → Replies b rules (Commit p) reply → after ≡ state_after b (Commit p) reply
    → IfOk reply (λ told. JustCommitted b told.number after)
just_committed b rules p (Err refusal) after is replies same = tt
just_committed b rules p (Ok t) after is replies same =
    let number = number_told b rules p t replies in
    record {
      is_open = is;
      change = p.change;
      next = number;
      events = ap (λ (l : LedgerState). l.events) same ∙ ap (λ n. posted b.events (length_of b.events + 1) (committing n p.change)) (sym number);
      opening = ap (λ (l : LedgerState). l.opening) same;
    }

-- ---- an emptying

answers_early : (early : Option Refusal) (rules : List Rule) (o : Outline) (late : Option Refusal) (told t : Told)
    → Answers early rules o late told (Ok t) → early ≡ None
answers_early (Some refusal) rules o late told t said = cc said
answers_early None rules o late told t said = refl

-- an emptying leaves the live repository
pub left_by_empty : (b : LedgerState) (rules : List Rule) (n : ℕ) (reply : Result Told Refusal) (after : LedgerState)
    → IsOpen b.opening b.events b.live → Replies b rules (Empty n) reply → after ≡ state_after b (Empty n) reply → after.live ≡ b.live
left_by_empty b rules n (Err refusal) after is replies same = ap (λ (l : LedgerState). l.live) same
left_by_empty b rules n (Ok t) after is replies same =
    let free = answers_early _ _ _ _ (told_of b.events (Empty n)) t (replies.0 tt) in
    let can = can_empty b.events n free in
    let opening : Repository = fold_of (up_to b.events n) b.opening in
    let open_after = open-Empty b.opening b.events b.live (length_of b.events + 1) n (marks_of opening) is (omega arith) can.above (is_change_parts b.events n can.change).1 refl in
    ap (λ (l : LedgerState). l.live) same ∙ sym open_after.state
