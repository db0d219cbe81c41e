-- What the checks say of a request.
use Rattle.std.proofs.Common.{◌≡◌, ℕ, ◌+◌, ◌<◌, ◌≤◌, ◌==◌, nat_le, Bool, true, false, ◌&&◌, ◌||◌, not, List, [], ◌∷◌, Option, Some, None, Result, Ok, Err, arith, length, refl, subst, sym, ◌∙◌}
use Rattle.std.specs.Prelude.{OnOk}
use Rattle.std.specs.Cmp.{first_so}
use Rattle.std.proofs.lemmas.Bool.{or_parts}
use Rattle.std.specs.Option.{option_map}
use Rattle.std.proofs.lemmas.Bool.Decides.{nat_tests}
use Rattle.keep_repo.specs.Repository.{held}
use Rattle.keep_change.specs.Change.{is_met}
use Rattle.keep_change.specs.Form.{least_unmet}
use Rattle.keep_change.specs.Limits.{facet_limit}
use Rattle.keep_change.specs.Marks.{marks_of}
use Rattle.keep_change.specs.Touch.{facets}
use Rattle.keep_change.specs.declared.change.Planned.{Planned}
use Rattle.keep_change.specs.declared.outline.What.TheVariants as what
use Rattle.keep_change.proofs.Least.{met_least}
use Rattle.keep_hooks.specs.Written.{name_count}
use Rattle.keep_journal.specs.History.{Fits, last_change, length_of}
use Rattle.keep_journal.specs.Opening.{IsOpen}
use Rattle.keep_journal.proofs.Commits.{fits-Empty}
use Rattle.keep_journal.proofs.Numbers.{is_change_parts}
use Rattle.keep_ledger.specs.Dependents.{Passes, blocked_by, leaned_on}
use Rattle.keep_ledger.specs.Guarding.{event_outline}
use Rattle.keep_ledger.specs.LedgerState.{LedgerState}
use Rattle.keep_ledger.specs.Limits.{change_limit, event_limit}
use Rattle.keep_ledger.specs.Made.{event_of, opening_after}
use Rattle.keep_ledger.specs.Reply.{IsFormed, about, commit_refusal, early_refusal, first_of, is_full, is_full_for, late_refusal, undo_refusal}
use Rattle.keep_ledger.specs.Request.{CanBegin, CanBeMade}
use Rattle.keep_ledger.specs.declared.reply.Refusal.{Refusal}
use Rattle.keep_ledger.specs.declared.reply.Refusal.TheVariants.{Blocked, Full, Stale, Unmet}
use Rattle.keep_journal.specs.declared.request.Request.{Request}
use Rattle.keep_journal.specs.declared.request.Request.TheVariants.{Commit, Undo, Redo, Empty}
use Rattle.keep_ledger.proofs.Redoing.{can_redo, same_blocked}
use Rattle.keep_ledger.proofs.Replying.{accepted, can_empty}
use Rattle.keep_ledger.proofs.Totals.{names_at, names_of}
use Rattle.keep_ledger.proofs.Undoing.{can_undo, same_undo_refusal}

-- ---- the early check

-- a check that objects to nothing lets the request begin
pub begins : (b : LedgerState) (request : Request) (r : Result (Unit {0}) Refusal) → IsFormed request
    → Passes (early_refusal b request) r → OnOk r (CanBegin b request)
begins b request (Ok u) formed passes = record { formed = formed; free = accepted (early_refusal b request) passes }
begins b request (Err e) formed passes = tt

pub begins_commit : (b : LedgerState) (p : Planned) (r : Result (Unit {0}) Refusal) → OnOk r (IsFormed (Commit p))
    → (IsFormed (Commit p) → Passes (early_refusal b (Commit p)) r) → OnOk r (CanBegin b (Commit p))
begins_commit b p (Ok u) formed passes = record { formed = formed; free = accepted (early_refusal b (Commit p)) (passes formed) }
begins_commit b p (Err e) formed passes = tt

-- the first later change that leans on it is the first of the others that can't be made
pub passes_undo : (b : LedgerState) (n : ℕ) (r : Result (Unit {0}) Refusal) → IsOpen b.opening b.events b.live
    → Passes (undo_refusal b.events n (leaned_on b.events n)) r → Passes (early_refusal b (Undo n)) r
passes_undo b n r is passes = subst (λ refusal. Passes refusal r) (sym (same_undo_refusal b.opening b.events b.live is n)) passes

-- ---- the late one

-- what the live repository and the later changes say of a change made again is what the fold says
pub passes_redo : (b : LedgerState) (n : ℕ) (r : Result (Unit {0}) Refusal) → IsOpen b.opening b.events b.live
    → CanBegin b (Redo n) → Passes (option_map Blocked (blocked_by b.events b.live n)) r → Passes (late_refusal b (Redo n)) r
passes_redo b n r is begins passes =
    let can = can_redo b.events n begins.free in
    subst (λ blocked. Passes (option_map Blocked blocked) r)
    (sym (same_blocked b.opening b.events b.live is n can.change can.above can.out)) passes

none_mapped : {A B : Type 0} (f : A → B) (o : Option A) → option_map f o ≡ None → o ≡ None
none_mapped f None none = refl
none_mapped f (Some a) none = cc none

-- a change that nothing objects to is met
pub met_of : (b : LedgerState) (p : Planned) → late_refusal b (Commit p) ≡ None → is_met (held b.live) p.change ≡ true
met_of b p none = (met_least (held b.live) p.change).1 (none_mapped Unmet (least_unmet (held b.live) p.change) none)

-- and nothing is blocked by a change that can be made again
pub unblocked : (b : LedgerState) (n : ℕ) → IsOpen b.opening b.events b.live → CanBeMade b (Redo n) → blocked_by b.events b.live n ≡ None
unblocked b n is can_be =
    let can = can_redo b.events n can_be.begins.free in
    sym (same_blocked b.opening b.events b.live is n can.change can.above can.out) ∙ none_mapped Blocked _ can_be.free

-- and nothing leans on one that can be taken back
pub free_undo : (b : LedgerState) (n : ℕ) → IsOpen b.opening b.events b.live → CanBegin b (Undo n)
    → undo_refusal b.events n (leaned_on b.events n) ≡ None
free_undo b n is begins = sym (same_undo_refusal b.opening b.events b.live is n) ∙ begins.free

-- ---- limits

-- where no condition holds, the first doesn't
first_none : (c : Bool) (r : Refusal) (ps : List (Bool × Refusal)) → first_of ((c, r) ∷ ps) ≡ None → (c ≡ false) × (first_of ps ≡ None)
first_none true r ps none = cc none
first_none false r ps none = (refl, none)

not_full : (b : LedgerState) → is_full b.events ≡ false → length_of b.events < event_limit
not_full b room = grind (arith, nat_tests)

-- a commit has room, for its facets too
pub record HasRoom (b : LedgerState) (p : Planned) : Type 0 where
  pub events : length_of b.events < event_limit
  pub numbers : last_change b.events < change_limit
  pub facets : length (facets p.change) ≤ facet_limit

pub has_room : (b : LedgerState) (p : Planned) → commit_refusal b.events p ≡ None → HasRoom b p
has_room b p none =
    let length_now : ℕ = length_of b.events in
    let count : ℕ = length (facets p.change) in
    let full : is_full_for b.events count ≡ false =
    (first_none (is_full_for b.events count) Full ((p.change.strict && not (p.seen == length_now), Stale length_now) ∷ []) none).0 in
    let parts = or_parts (is_full b.events) (nat_le change_limit (last_change b.events) || not (nat_le count facet_limit)) full in
    let last = or_parts (nat_le change_limit (last_change b.events)) (not (nat_le count facet_limit)) parts.1 in
    let top : nat_le change_limit (last_change b.events) ≡ false = last.0 in
    let few : not (nat_le count facet_limit) ≡ false = last.1 in
    record {
      events = not_full b parts.0;
      numbers = grind (arith, nat_tests, top);
      facets = grind (arith, nat_tests, few);
    }

-- and so has each request that nothing objects to
pub room_of : (b : LedgerState) (request : Request) → early_refusal b request ≡ None → length_of b.events < event_limit
room_of b (Commit p) none = (has_room b p none).events
room_of b (Undo n) none = not_full b (can_undo b.events n _ none).room
room_of b (Redo n) none = not_full b (can_redo b.events n none).room
room_of b (Empty n) none = not_full b (can_empty b.events n none).room

-- the outline of its event names few facets
pub few_asked : (b : LedgerState) (request : Request) → IsOpen b.opening b.events b.live → CanBegin b request
    → name_count (event_outline b request) ≤ facet_limit
few_asked b (Commit p) is begins =
    omega (arith, names_of what.Commit (last_change b.events + 1) p.change, (has_room b p begins.free).facets)
few_asked b (Undo n) is begins = names_at b.events what.Undo n is.within
few_asked b (Redo n) is begins = names_at b.events what.Redo n is.within
few_asked b (Empty n) is begins = omega arith

-- ---- the event

-- the event of a request that nothing objects to can come next
pub fits : (b : LedgerState) (request : Request) → CanBegin b request → Fits b.events (event_of b request)
fits b (Commit p) begins = refl
fits b (Undo n) begins =
    let can = can_undo b.events n _ begins.free in
    (can.above, (is_change_parts b.events n can.change).1, first_so _ _ can.in_it)
fits b (Redo n) begins =
    let can = can_redo b.events n begins.free in
    (can.above, (is_change_parts b.events n can.change).1, can.not_in_force)
fits b (Empty n) begins =
    let can = can_empty b.events n begins.free in
    fits-Empty b.events n (marks_of (opening_after b (Empty n))) can.above (is_change_parts b.events n can.change).1

-- it is about the change that the request is about
pub its_number : (b : LedgerState) (request : Request) → (event_of b request).number ≡ about b.events request
its_number b (Commit p) = refl
its_number b (Undo n) = refl
its_number b (Redo n) = refl
its_number b (Empty n) = refl
