-- What is told is what the ledger tells.
use Rattle.std.proofs.Common.{◌≡◌, List, Option, Some, None, Ok, inl, inr}
use Rattle.std.specs.Option.{option_map, option_or}
use Rattle.keep_change.specs.declared.outline.Outline.{Outline}
use Rattle.keep_hooks.specs.Guards.{Rule, first_refusing}
use Rattle.keep_ledger.specs.Guarding.{event_outline, rules_for}
use Rattle.keep_ledger.specs.LedgerState.{LedgerState}
use Rattle.keep_ledger.specs.Reply.{Answers, RefusesOrTells, Replies, early_refusal, late_refusal, told_of}
use Rattle.keep_ledger.specs.declared.reply.Refusal.{Refusal}
use Rattle.keep_ledger.specs.declared.reply.Refusal.TheVariants.{Vetoed}
use Rattle.keep_journal.specs.declared.request.Told.{Told}
use Rattle.keep_journal.specs.declared.request.Request.{Request}
use Rattle.keep_pages.proofs.Formed.{formed}

told_last : (refusal : Option Refusal) (told t : Told) → RefusesOrTells refusal told (Ok t) → t ≡ told
told_last (Some refusal) told t said = cc said
told_last None told t (inl said) = cc said
told_last None told t (inr said) = cc said

told_by : (early : Option Refusal) (rules : List Rule) (o : Outline) (late : Option Refusal) (told t : Told)
    → Answers early rules o late told (Ok t) → t ≡ told
told_by (Some refusal) rules o late told t said = cc said
told_by None rules o late told t (inl said) =
    told_last (option_or (option_map Vetoed (first_refusing rules o)) late) told t said
told_by None rules o late told t (inr memory) = cc memory.1

-- the number of the change, and the next event's number
pub told_is : (rules : List Rule) (b : LedgerState) (request : Request) (t : Told) → Replies b rules request (Ok t)
    → t ≡ told_of b.events request
told_is rules b request t replies =
    let is_formed = formed request (λ no. cc (replies.1 no)) in
    told_by (early_refusal b request) (rules_for rules request) (event_outline b request) (late_refusal b request) (told_of b.events request) t
    (replies.0 is_formed)
