-- What an answer that tells says of its request.
use Rattle.std.proofs.Common.{◌≡◌, List, Option, Some, None, Ok, refl, inl, inr}
use Rattle.std.specs.Option.{option_map, option_or}
use Rattle.keep_change.specs.declared.outline.Outline.{Outline}
use Rattle.keep_hooks.specs.Guards.{Rule, first_refusing}
use Rattle.keep_ledger.specs.Guarding.{event_outline, rules_for}
use Rattle.keep_ledger.specs.LedgerState.{LedgerState}
use Rattle.keep_ledger.specs.Reply.{Answers, RefusesOrTells, Replies, early_refusal, late_refusal, told_of}
use Rattle.keep_ledger.specs.Request.{CanBeMade}
use Rattle.keep_ledger.specs.declared.reply.Refusal.{Refusal}
use Rattle.keep_ledger.specs.declared.reply.Refusal.TheVariants.{Vetoed}
use Rattle.keep_journal.specs.declared.request.Told.{Told}
use Rattle.keep_journal.specs.declared.request.Request.{Request}
use Rattle.keep_pages.proofs.Formed.{formed}

-- nothing objects: neither before the vetoes, nor after them
record IsFree (early late : Option Refusal) : Type 0 where
  before : early ≡ None
  after : late ≡ None

free_after : (vetoed late : Option Refusal) (told t : Told) → RefusesOrTells (option_or vetoed late) told (Ok t) → late ≡ None
free_after (Some refusal) late told t said = cc said
free_after None (Some refusal) told t said = cc said
free_after None None told t said = refl

free : (early : Option Refusal) (rules : List Rule) (o : Outline) (late : Option Refusal) (told t : Told)
    → Answers early rules o late told (Ok t) → IsFree early late
free (Some refusal) rules o late told t said = cc said
free None rules o late told t (inl said) =
    record { before = refl; after = free_after (option_map Vetoed (first_refusing rules o)) late told t said }
free None rules o late told t (inr memory) = cc memory.1

-- nothing objects to a request that is told
pub accepts : (rules : List Rule) (b : LedgerState) (request : Request) (t : Told) → Replies b rules request (Ok t) → CanBeMade b request
accepts rules b request t replies =
    let is_formed = formed request (λ no. cc (replies.1 no)) in
    let nothing = free (early_refusal b request) (rules_for rules request) (event_outline b request) (late_refusal b request) (told_of b.events request) t
    (replies.0 is_formed) in
    record { begins = record { formed = is_formed; free = nothing.before }; free = nothing.after }
