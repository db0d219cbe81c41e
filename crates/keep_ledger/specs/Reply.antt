-- What a ledger replies to a request, and what it leaves, as a function of its value.
use Rattle.std.specs.Prelude.{◌≡◌, ◌≢◌, ℕ, ◌+◌, ◌<◌, ◌==◌, nat_le, Bool, not, ◌&&◌, ◌||◌, if◌then◌else◌, List, [], ◌∷◌, length, Option, Some, None, Result, Ok, Err, OnOk, MatchOption, ◌⊎◌}
use Rattle.std.specs.Option.{option_map, option_or}
use Rattle.keep_repo.specs.Repository.{Repository, held}
use Rattle.keep_change.specs.Fold.{first_break, fold_of}
use Rattle.keep_change.specs.Form.{IsWellFormed, least_unmet}
use Rattle.keep_change.specs.Limits.{facet_limit}
use Rattle.keep_change.specs.Touch.{facets}
use Rattle.keep_change.specs.declared.change.Planned.{Planned}
use Rattle.keep_journal.specs.History.{final_number, is_change, is_in_force, last_change, length_of}
use Rattle.keep_journal.specs.Journal.{Journal}
use Rattle.keep_journal.specs.Kept.{kept_with, others}
use Rattle.keep_change.specs.declared.outline.Outline.{Outline}
use Rattle.keep_hooks.specs.Guards.{Rule, first_refusing}
use Rattle.keep_ledger.specs.LedgerState.{LedgerState}
use Rattle.keep_ledger.specs.Guarding.{event_outline, rules_for}
use Rattle.keep_ledger.specs.Limits.{change_limit, event_limit}
use Rattle.keep_ledger.specs.Made.{with_event}
use Rattle.keep_ledger.specs.declared.reply.Refusal.{Refusal}
use Rattle.keep_ledger.specs.declared.reply.Refusal.TheVariants.{Malformed, Unknown, Final, NotInForce, InForce, Full, Stale, Vetoed, Unmet, LeanedOn, Blocked, Memory}
use Rattle.keep_journal.specs.declared.request.Request.{Request}
use Rattle.keep_journal.specs.declared.request.Request.TheVariants.{Commit, Undo, Redo, Empty}
use Rattle.keep_journal.specs.declared.request.Told.{Told}

-- the first refusal whose condition holds
abbrev pub first_of : List (Bool × Refusal) → Option Refusal
first_of [] = None
first_of (p ∷ ps) = if p.0 then Some p.1 else first_of ps

-- whether there is no room for one more event
abbrev pub is_full : Journal → Bool
is_full j = nat_le event_limit (length_of j)

-- whether there is no room for one more commit, of this many facets
abbrev pub is_full_for : Journal → ℕ → Bool
is_full_for j count = is_full j || (nat_le change_limit (last_change j) || not (nat_le count facet_limit))

-- why a well formed change can't be committed, whatever the vetoes and the live repository say
abbrev pub commit_refusal : Journal → Planned → Option Refusal
commit_refusal j p =
    first_of ((is_full_for j (length (facets p.change)), Full)
    ∷ (p.change.strict && not (p.seen == length_of j), Stale (length_of j)) ∷ [])

-- why change n can't be undone, where broken is the first of the others that isn't met without it
abbrev pub undo_refusal : Journal → ℕ → Option ℕ → Option Refusal
undo_refusal j n broken =
    option_or
    (first_of ((not (is_change j n), Unknown) ∷ (nat_le n (final_number j), Final)
    ∷ (not (is_in_force j n), NotInForce) ∷ (is_full j, Full) ∷ []))
    (option_map LeanedOn broken)

-- why change n can't be redone, whatever the vetoes and the other changes say
abbrev pub redo_refusal : Journal → ℕ → Option Refusal
redo_refusal j n =
    first_of ((not (is_change j n), Unknown) ∷ (nat_le n (final_number j), Final)
    ∷ (is_in_force j n, InForce) ∷ (is_full j, Full) ∷ [])

-- why the changes up to n can't be made final, whatever the vetoes say
abbrev pub empty_refusal : Journal → ℕ → Option Refusal
empty_refusal j n =
    first_of ((not (is_change j n), Unknown) ∷ (nat_le n (final_number j), Final) ∷ (is_full j, Full) ∷ [])

-- the refusal where there is one; and else what is told, unless memory runs out
abbrev pub RefusesOrTells : Option Refusal → Told → Result Told Refusal → Type 0
RefusesOrTells (Some refusal) told reply = reply ≡ Err refusal
RefusesOrTells None told reply = (reply ≡ Ok told) ⊎ (reply ≡ Err Memory)

-- the early refusal where there is one; else that of the first veto, the late one, and what is told; memory may run out where a veto is asked
abbrev pub Answers : Option Refusal → List Rule → Outline → Option Refusal → Told → Result Told Refusal → Type 0
Answers (Some refusal) rules o late told reply = reply ≡ Err refusal
Answers None rules o late told reply =
    RefusesOrTells (option_or (option_map Vetoed (first_refusing rules o)) late) told reply
    ⊎ ((0 < length rules) × (reply ≡ Err Memory))

-- the number of the change that an accepted request is about: a commit gets the next one
abbrev pub about : Journal → Request → ℕ
about j (Commit p) = last_change j + 1
about j (Undo n) = n
about j (Redo n) = n
about j (Empty n) = n

-- what an accepted request is told: the number of its change, and of its event
abbrev pub told_of : Journal → Request → Told
told_of j request = record { number = about j request; at = length_of j + 1 }

-- why a request is refused before the vetoes are asked, where its change is well formed
abbrev pub early_refusal : LedgerState → Request → Option Refusal
early_refusal b (Commit p) = commit_refusal b.events p
early_refusal b (Undo n) = undo_refusal b.events n (first_break (others b.events n) b.opening)
early_refusal b (Redo n) = redo_refusal b.events n
early_refusal b (Empty n) = empty_refusal b.events n

-- why it is refused after they let it pass
abbrev pub late_refusal : LedgerState → Request → Option Refusal
late_refusal b (Commit p) = option_map Unmet (least_unmet (held b.live) p.change)
late_refusal b (Undo n) = None
late_refusal b (Redo n) = option_map Blocked (first_break (kept_with b.events n) b.opening)
late_refusal b (Empty n) = None

-- what a request needs before anything else: its change is well formed
abbrev pub IsFormed : Request → Type 0
IsFormed (Commit p) = IsWellFormed p.change
IsFormed (Undo n) = Unit {0}
IsFormed (Redo n) = Unit {0}
IsFormed (Empty n) = Unit {0}

-- the ledger's reply to a request, where these are the vetoes
abbrev pub Replies : LedgerState → List Rule → Request → Result Told Refusal → Type 0
Replies b rules request reply =
    (IsFormed request →
    Answers (early_refusal b request) (rules_for rules request) (event_outline b request) (late_refusal b request)
    (told_of b.events request) reply)
    × (¬ IsFormed request → reply ≡ Err Malformed)

-- change n is taken back where the others, in their order, can be made of the opening, and what they make of it is left, unless memory runs out; else the first that can't be made is named
abbrev pub TakesBack : LedgerState → ℕ → Result Told Refusal → Repository → Type 0
TakesBack b n reply left =
    MatchOption (first_break (others b.events n) b.opening)
    (((reply ≡ Ok (record { number = n; at = length_of b.events + 1 })) ⊎ (reply ≡ Err Memory))
    × OnOk reply (left ≡ fold_of (others b.events n) b.opening))
    (λ m. reply ≡ Err (LeanedOn m))

-- nothing leans on the change, and where it is taken back the repository is as it was
abbrev pub Restores : Repository → Result Told Refusal → Repository → Type 0
Restores was reply left = ((m : ℕ) → reply ≢ Err (LeanedOn m)) × OnOk reply (left ≡ was)

-- an accepted request adds its event, and a refused one changes nothing
abbrev pub state_after : LedgerState → Request → Result Told Refusal → LedgerState
state_after b request (Ok told) = with_event b request
state_after b request (Err refusal) = b
