-- How many calls an answer makes, and how many fail.
use Rattle.std.proofs.Common.{◌≡◌, ◌∙◌, ◌+◌, List, [], ◌∷◌, ◌++◌, Ok, Err, inl, inr, append_assoc, ap, arith, length, map, refl, sym, take}
use Rattle.std.proofs.lemmas.Grind.{fold-append}
use Rattle.keep_change.specs.Marks.{marks_of}
use Rattle.keep_journal.specs.History.{last_change, length_of}
use Rattle.keep_shelf.specs.Shelved.{Shelved, called, risen}
use Rattle.keep_moves.specs.Calls.{Call, Make, left_by, looks, played}
use Rattle.keep_moves.specs.Course.{calls_of, entry_put}
use Rattle.keep_moves.specs.declared.moves.Move.{Move}
use Rattle.keep_moves.proofs.Counts.{calls_counted, calls_recorded}
use Rattle.keep_ledger.specs.Ends.{AcceptedIsCounted, Ends, FaultsAreCounted, FaultsAtEntry, FaultsAtMoves}
use Rattle.keep_ledger.specs.Made.{event_of, opening_after}
use Rattle.keep_ledger.specs.OnShelf.{OnShelf, entered, looks_for, moves_for, settled}
use Rattle.keep_ledger.specs.declared.reply.Refusal.TheVariants.{Malformed, Unknown, Final, NotInForce, InForce, Full, Stale, Vetoed, Unmet, LeanedOn, Blocked, Memory, Fault, Unsettled}
use Rattle.keep_journal.specs.declared.request.Told.{Told}
use Rattle.keep_journal.specs.declared.request.Request.{Request}
use Rattle.keep_journal.specs.declared.request.Request.TheVariants.{Commit, Undo, Redo, Empty}

pub played_more : (xs ys : List Call) (s : Shelved) → played (xs ++ ys) s ≡ played ys (played xs s)
played_more xs ys s = fold-append (λ (t : Shelved) call. called t (left_by t.content call)) s xs ys

-- all calls of an event are those that enter it and its moves
course : (b : OnShelf) (request : Request)
    → (settled (entered request b)).shelf ≡ played (calls_of b.state.events (length_of b.state.events + 1) (event_of b.state request)) b.shelf
course b request =
    let first = looks (looks_for b.state request) ++ Make (entry_put (length_of b.state.events + 1) (event_of b.state request)) ∷ [] in
    sym (played_more first (map Make (moves_for b.state request)) b.shelf)
    ∙ ap (λ calls. played calls b.shelf) (append_assoc (looks (looks_for b.state request)) _ _)

-- the calls of an accepted request, where no move was due
calls_made : (before after : OnShelf) (request : Request) (told : Told) → before.due ≡ [] → Ends before request (Ok told) after
    → length after.shelf.calls
    ≡ length before.shelf.calls + length (calls_of before.state.events (length_of before.state.events + 1) (event_of before.state request))
calls_made before after request told none ends =
    let calls = calls_of before.state.events (length_of before.state.events + 1) (event_of before.state request) in
    let start : (settled before).shelf ≡ before.shelf = ap (λ (due : List Move). played (map Make due) before.shelf) none in
    let all : after.shelf ≡ played calls before.shelf = ap (λ (a : OnShelf). a.shelf) ends ∙ course (settled before) request ∙ ap (played calls) start in
    ap (λ (s : Shelved). length s.calls) all ∙ calls_recorded calls before.shelf

pub accepted_counted : AcceptedIsCounted
accepted_counted before after none = record {
  commit = λ p told ends.
      let j = before.state.events in
      omega (arith, calls_made before after (Commit p) told none ends, (calls_counted j (length_of j + 1) (last_change j + 1)).commit p.change);
  undo = λ n c told found ends.
      let j = before.state.events in
      omega (arith, calls_made before after (Undo n) told none ends, (calls_counted j (length_of j + 1) n).undo c found);
  redo = λ n c told found ends.
      let j = before.state.events in
      omega (arith, calls_made before after (Redo n) told none ends, (calls_counted j (length_of j + 1) n).redo c found);
  empty = λ n told ends.
      let j = before.state.events in
      omega (arith, calls_made before after (Empty n) told none ends, (calls_counted j (length_of j + 1) n).empty (marks_of (opening_after before.state (Empty n))));
}

-- ---- failures

pub no_failure : (calls : List Call) (s : Shelved) → (played calls s).failures ≡ s.failures
no_failure [] s = refl
no_failure (call ∷ calls) s = no_failure calls (called s (left_by s.content call))

module _ (before after : OnShelf) (request : Request) where
  settled_failures : (b : OnShelf) → (settled b).shelf.failures ≡ b.shelf.failures
  settled_failures b = no_failure (map Make b.due) b.shelf

  entered_failures : (b : OnShelf) → (entered request b).shelf.failures ≡ b.shelf.failures
  entered_failures b =
      no_failure (looks (looks_for b.state request) ++ Make (entry_put (length_of b.state.events + 1) (event_of b.state request)) ∷ []) b.shelf

  at_moves : (b : OnShelf) → FaultsAtMoves b after → after.shelf.failures ≡ risen b.shelf.failures
  at_moves b faults = ap (λ (a : OnShelf). a.shelf.failures) faults.2 ∙ ap risen (no_failure (map Make (take faults.0 b.due)) b.shelf)

  at_entry : FaultsAtEntry (settled before) request after → after.shelf.failures ≡ risen before.shelf.failures
  at_entry faults =
      ap (λ (a : OnShelf). a.shelf.failures) faults.2 ∙ ap risen (no_failure (looks faults.0) (settled before).shelf ∙ settled_failures before)

  as_before : after ≡ settled before → after.shelf.failures ≡ before.shelf.failures
  as_before same = ap (λ (a : OnShelf). a.shelf.failures) same ∙ settled_failures before

pub faults_counted : FaultsAreCounted
faults_counted before after request (Ok told) ends =
    ap (λ (a : OnShelf). a.shelf.failures) ends ∙ settled_failures before after request (entered request (settled before))
    ∙ entered_failures before after request (settled before) ∙ settled_failures before after request before
faults_counted before after request (Err Fault) (inl faults) = at_moves before after request before faults
faults_counted before after request (Err Fault) (inr faults) = at_entry before after request faults
faults_counted before after request (Err (Unsettled n)) ends =
    at_moves before after request (entered request (settled before)) ends.1
    ∙ ap risen (entered_failures before after request (settled before) ∙ settled_failures before after request before)
faults_counted before after request (Err Malformed) ends = as_before before after request ends
faults_counted before after request (Err Unknown) ends = as_before before after request ends
faults_counted before after request (Err Final) ends = as_before before after request ends
faults_counted before after request (Err NotInForce) ends = as_before before after request ends
faults_counted before after request (Err InForce) ends = as_before before after request ends
faults_counted before after request (Err Full) ends = as_before before after request ends
faults_counted before after request (Err (Stale n)) ends = as_before before after request ends
faults_counted before after request (Err (Vetoed name)) ends = as_before before after request ends
faults_counted before after request (Err (Unmet facet)) ends = as_before before after request ends
faults_counted before after request (Err (LeanedOn n)) ends = as_before before after request ends
faults_counted before after request (Err (Blocked n)) ends = as_before before after request ends
faults_counted before after request (Err Memory) ends = as_before before after request ends
