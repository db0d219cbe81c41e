-- What a ledger stands on where no move is due, and what is left where an event isn't entered.
use Rattle.std.proofs.Common.{◌≡◌, ◌∙◌, ℕ, ◌+◌, ◌≤◌, List, [], Err, drop, inl, inr, ap, subst, sym}
use Rattle.keep_repo.specs.Repository.{Repository}
use Rattle.keep_journal.specs.History.{length_of}
use Rattle.keep_journal.specs.Journal.{Journal}
use Rattle.keep_journal.specs.declared.event.Entry.{Entry}
use Rattle.keep_journal.specs.declared.event.Event.{Event}
use Rattle.keep_shelf.specs.Shelved.{Shelved}
use Rattle.keep_moves.specs.Course.{looks_of}
use Rattle.keep_moves.specs.declared.moves.Move.{Move}
use Rattle.keep_moves.proofs.Played.{reads_leave}
use Rattle.keep_touch.specs.Mentions.{NoteTheSame}
use Rattle.keep_touch.specs.declared.touch.Touch.{Touch}
use Rattle.keep_ledger.specs.Entering.{Enters, Stops, is_plain}
use Rattle.keep_ledger.specs.LedgerState.{ledger_of_live}
use Rattle.keep_ledger.specs.Made.{event_of}
use Rattle.keep_ledger.specs.OnShelf.{IsKept, OnShelf, ledger_on}
use Rattle.keep_ledger.specs.Reply.{told_of}
use Rattle.keep_ledger.specs.Request.{CanBeMade}
use Rattle.keep_ledger.specs.declared.reply.Refusal.{Refusal}
use Rattle.keep_journal.specs.declared.request.Told.{Told}
use Rattle.keep_journal.specs.declared.request.Request.{Request}
use Rattle.keep_ledger.proofs.Asking.{its_number}

-- the parts of a ledger that has no move due, and to whose request nothing objects
pub record Stands (self : OnShelf) (request : Request) (j : Journal) (live : Repository) (touch : Touch) (moves : List Move) (made : ℕ) (shelf : Shelved) : Type 0 where
  pub kept : IsKept j live touch moves made shelf
  pub none : drop made moves ≡ []
  pub shows : ledger_on j live [] shelf ≡ self
  pub can : CanBeMade (ledger_of_live j live) request

-- so they stand where room was made in its history
pub stands : (self : OnShelf) (request : Request) (j i : Journal) (live : Repository) (touch : Touch) (moves : List Move) (made : ℕ) (shelf : Shelved)
    → IsKept j live touch moves made shelf → ledger_on j live (drop made moves) shelf ≡ self → self.due ≡ [] → CanBeMade self.state request → i ≡ j
    → Stands self request i live touch moves made shelf
stands self request j i live touch moves made shelf kept view settled can same =
    let none : drop made moves ≡ [] = ap (λ (b : OnShelf). b.due) view ∙ settled in
    let shows : ledger_on j live [] shelf ≡ self = ap (λ due. ledger_on j live due shelf) (sym none) ∙ view in
    subst (λ h. Stands self request h live touch moves made shelf) (sym same) (record {
      kept = kept;
      none = none;
      shows = shows;
      can = subst (λ (b : OnShelf). CanBeMade b.state request) (sym shows) can;
    })

module _ (self : OnShelf) (request : Request) (j : Journal) (live : Repository) (touch : Touch) (moves : List Move) (made : ℕ) (s : Shelved)
    (is : Stands self request j live touch moves made s) where
  -- ---- the event isn't entered

  module _ (after : Repository) (notes : Touch) (stop : Refusal) (most : ℕ) (left : Shelved) (same : after ≡ live) (stopped : Stops stop most s left) where
    same_content : left.content ≡ s.content
    same_content = by stopped where
      by : Stops stop most s left → left.content ≡ s.content
      by (inl (memory, e)) = ap (λ (t : Shelved). t.content) e
      by (inr (fault, fails)) = ap (λ (t : Shelved). t.content) fails.2 ∙ reads_leave fails.0 s

    pub stays_kept : NoteTheSame touch notes → IsKept j after notes moves made left
    stays_kept note_the_same =
        let there : IsKept j live notes moves made left = record {
          consistent = record {
            is_open = is.kept.consistent.is_open;
            noted = λ facet. note_the_same facet ∙ is.kept.consistent.noted facet;
          };
          within = is.kept.within;
          behind = rw same_content is.kept.behind;
          reads = rw same_content is.kept.reads;
        } in
        rw same there

    pub not_entered : (event : most ≡ looks_of j (event_of (ledger_of_live j live) request)) → Enters self request (Err stop) (ledger_on j after (drop made moves) left)
    not_entered event = subst (λ b. Enters b request (Err stop) (ledger_on j after (drop made moves) left)) is.shows (by stopped) where
      shows : ledger_on j after (drop made moves) left ≡ ledger_on j live [] left
      shows = ap (λ r. ledger_on j r (drop made moves) left) same ∙ ap (λ due. ledger_on j live due left) is.none

      by : Stops stop most s left → Enters (ledger_on j live [] s) request (Err stop) (ledger_on j after (drop made moves) left)
      by (inl (memory, e)) = inl (ap is_plain memory, shows ∙ ap (ledger_on j live []) e)
      by (inr (fault, fails)) =
          inr (fault, (fails.0, (subst (λ n. fails.0 ≤ n) event fails.1), shows ∙ ap (ledger_on j live []) fails.2))

  -- ---- it is entered

  pub tells : (entry : Entry) (told : Told) → entry.at ≡ length_of j + 1 → entry.event ≡ event_of (ledger_of_live j live) request
      → told ≡ record { number = entry.event.number; at = entry.at } → told ≡ told_of self.state.events request
  tells entry told at event e =
      let number = ap (λ (d : Event). d.number) event ∙ its_number (ledger_of_live j live) request in
      e ∙ ap (λ k. record { number = entry.event.number; at = k }) at ∙ ap (λ n. record { number = n; at = length_of j + 1 }) number
      ∙ ap (λ (b : OnShelf). told_of b.state.events request) is.shows
