-- Totals stay the sums of the events, whether one came in and was told or not.
use Rattle.std.proofs.Common.{◌≡◌, ap, List, Option, Result, Ok, Err, inl, inr, subst, sym}
use Rattle.std.specs.Prelude.{OnErr, OnOk}
use Rattle.keep_change.specs.declared.outline.Outline.{Outline}
use Rattle.keep_hooks.specs.Guards.{ArmedData, Rule, Tally, tallies_after}
use Rattle.keep_journal.specs.Opening.{IsOpen}
use Rattle.keep_ledger.specs.Entering.{Enters}
use Rattle.keep_ledger.specs.Guarding.{IsOutline, event_outline}
use Rattle.keep_ledger.specs.LedgerState.{LedgerState}
use Rattle.keep_ledger.specs.OnShelf.{OnShelf}
use Rattle.keep_ledger.specs.Sums.{AreSums}
use Rattle.keep_ledger.specs.declared.reply.Refusal.{Refusal}
use Rattle.keep_journal.specs.declared.request.Told.{Told}
use Rattle.keep_journal.specs.declared.request.Request.{Request}
use Rattle.keep_ledger.proofs.Sums.{sums_told}

-- a refused request leaves the events as they were
state_kept : (b after : OnShelf) (request : Request) (e : Refusal) → Enters b request (Err e) after → after.state ≡ b.state
state_kept b after request e (inl plain) = ap (λ (o : OnShelf). o.state) plain.1
state_kept b after request e (inr fault) = ap (λ (o : OnShelf). o.state) fault.1.2

module _ (b : OnShelf) (request : Request) (is : IsOpen b.state.opening b.state.events b.state.live) where
  pub sums_either : (after : OnShelf) (r : Result Told Refusal) (vetoes : List Rule) (watches : List ArmedData) (was now : List Tally) (outline : Option Outline)
      → AreSums b.state.events watches was → Enters b request r after → IsOutline vetoes was (event_outline b.state request) outline
      → OnOk r ((asked : Outline) → IsOutline vetoes was asked outline → now ≡ tallies_after asked was) → OnErr r (now ≡ was)
      → AreSums after.state.events watches now
  sums_either after (Ok t) vetoes watches was now outline were enters asked told untold =
      subst (AreSums after.state.events watches) (sym (told (event_outline b.state request) asked))
      (sums_told b.state request is after.state watches was were (ap (λ (o : OnShelf). o.state) enters.1))
  sums_either after (Err e) vetoes watches was now outline were enters asked told untold =
      subst (AreSums after.state.events watches) (sym untold)
      (subst (λ (s : LedgerState). AreSums s.events watches was) (sym (state_kept b after request e enters)) were)
