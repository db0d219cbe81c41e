-- What has to hold before a request is done.
use Rattle.std.specs.Prelude.{◌≡◌, if◌then◌else◌, None, Some}
use Rattle.keep_ledger.specs.LedgerState.{LedgerState}
use Rattle.keep_ledger.specs.Reply.{IsFormed, early_refusal, is_full, late_refusal}
use Rattle.keep_ledger.specs.declared.reply.Refusal.TheVariants.{Full}
use Rattle.keep_journal.specs.declared.request.Request.{Request}

-- nothing objects to the request before the vetoes are asked
pub record CanBegin (b : LedgerState) (request : Request) : Type 0 where
  pub formed : IsFormed request
  pub free : early_refusal b request ≡ None

-- and nothing does after they let it pass
pub record CanBeMade (b : LedgerState) (request : Request) : Type 0 where
  pub begins : CanBegin b request
  pub free : late_refusal b request ≡ None

-- nothing but want of room for one more event objects to it before the vetoes are asked
pub record IsFree (b : LedgerState) (request : Request) : Type 0 where
  pub formed : IsFormed request
  pub refusal : early_refusal b request ≡ (if is_full b.events then Some Full else None)
