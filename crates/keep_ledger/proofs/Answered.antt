-- What an answer says of the shelf, by whether it has to do with it.
use Rattle.std.proofs.Common.{◌≡◌, ◌∙◌, Result, Ok, Err, ap, subst}
use Rattle.std.specs.Prelude.{◌≢◌}
use Rattle.keep_ledger.specs.Ends.{Ends, FaultsAtMoves}
use Rattle.keep_ledger.specs.Entering.{Enters}
use Rattle.keep_ledger.specs.OnShelf.{OnShelf, entered, settled}
use Rattle.keep_ledger.specs.Reply.{told_of}
use Rattle.keep_ledger.specs.declared.reply.Refusal.{Refusal}
use Rattle.keep_ledger.specs.declared.reply.Refusal.TheVariants.{Malformed, Unknown, Final, NotInForce, InForce, Full, Stale, Vetoed, Unmet, LeanedOn, Blocked, Memory, Fault, Unsettled}
use Rattle.keep_journal.specs.declared.request.Told.{Told}
use Rattle.keep_journal.specs.declared.request.Request.{Request}

-- what holds of Fault, and of every other answer
pub unless_fault : (P : Result Told Refusal → Type 0) (reply : Result Told Refusal) → P (Err Fault) → (reply ≢ Err Fault → P reply) → P reply
unless_fault P (Ok told) at other = other (λ e. cc e)
unless_fault P (Err Malformed) at other = other (λ e. cc e)
unless_fault P (Err Unknown) at other = other (λ e. cc e)
unless_fault P (Err Final) at other = other (λ e. cc e)
unless_fault P (Err NotInForce) at other = other (λ e. cc e)
unless_fault P (Err InForce) at other = other (λ e. cc e)
unless_fault P (Err Full) at other = other (λ e. cc e)
unless_fault P (Err (Stale n)) at other = other (λ e. cc e)
unless_fault P (Err (Vetoed name)) at other = other (λ e. cc e)
unless_fault P (Err (Unmet facet)) at other = other (λ e. cc e)
unless_fault P (Err (LeanedOn n)) at other = other (λ e. cc e)
unless_fault P (Err (Blocked n)) at other = other (λ e. cc e)
unless_fault P (Err Memory) at other = other (λ e. cc e)
unless_fault P (Err Fault) at other = at
unless_fault P (Err (Unsettled n)) at other = other (λ e. cc e)

-- where the event is in, and one of its moves failed, the change is unsettled
pub unsettled_ends : (b mid there after : OnShelf) (request : Request) (told : Told) → mid ≡ settled b → Enters mid request (Ok told) there
    → FaultsAtMoves there after → Ends b request (Err (Unsettled told.number)) after
unsettled_ends b mid there after request told first enters faults =
    let told_is : told ≡ told_of b.state.events request = enters.0 ∙ ap (λ (m : OnShelf). told_of m.state.events request) first in
    let there_is : there ≡ entered request (settled b) = enters.1 ∙ ap (entered request) first in
    (ap (λ (t : Told). t.number) told_is, subst (λ t. FaultsAtMoves t after) there_is faults)
