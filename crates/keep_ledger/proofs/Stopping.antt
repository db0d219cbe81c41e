-- What each call left that was made for a request.
use Rattle.std.proofs.Common.{◌≡◌, ℕ, ◌+◌, List, [], ◌∷◌, ◌++◌, Ok, Err, drop, inl, inr, length, map, take, sym, ap, ◌∙◌, subst, append_assoc}
use Rattle.std.specs.FinMap as finite
use Rattle.std.specs.List.{AllByRecursion}
use Rattle.std.proofs.Math.Seq.{drop-append_seam}
use Rattle.keep_journal.specs.History.{length_of}
use Rattle.keep_shelf.specs.Shelved.{Content, Shelved, called, failed}
use Rattle.keep_moves.specs.Calls.{Call, Make, left_by, looks, played}
use Rattle.keep_moves.specs.Course.{entry_put}
use Rattle.keep_moves.proofs.Erased.{all_append, all_weaker}
use Rattle.keep_moves.proofs.Played.{calls_more}
use Rattle.keep_reading.specs.Due.{IsRead}
use Rattle.keep_reading.specs.Laws.{contents_along}
use Rattle.keep_reading.proofs.Moving.{moves_read}
use Rattle.keep_reading.proofs.Stopping.{all_looks, all_moves, calls_added}
use Rattle.keep_ledger.specs.Ends.{FaultsAtMoves}
use Rattle.keep_ledger.specs.Entering.{Enters}
use Rattle.keep_ledger.specs.Made.{event_of}
use Rattle.keep_ledger.specs.OnShelf.{OnShelf, entered, looked, looks_for, moved_on, settled}
use Rattle.keep_ledger.specs.Stops.{EachCallReads, IsBeforeOrAfter, IsShown, Says}
use Rattle.keep_ledger.specs.declared.reply.Refusal.{Refusal}
use Rattle.keep_journal.specs.declared.request.Told.{Told}
use Rattle.keep_journal.specs.declared.request.Request.{Request}

-- ---- the record of a shelf grew by contents of which something holds

pub record Grown (P : Content → Type 0) (s t : Shelved) : Type 0 where
  pub more : List Content
  pub is : t.calls ≡ s.calls ++ more
  pub all : AllByRecursion P more

module _ (P : Content → Type 0) where
  pub grown_by : (calls : List Call) (s : Shelved) → AllByRecursion P (contents_along calls s.content) → Grown P s (played calls s)
  grown_by calls s all = record { more = contents_along calls s.content; is = calls_added calls s; all = all }

  pub grown_then : (s t u : Shelved) → Grown P s t → Grown P t u → Grown P s u
  grown_then s t u first later = record {
    more = first.more ++ later.more;
    is = later.is ∙ ap (λ cs. cs ++ later.more) first.is ∙ append_assoc s.calls first.more later.more;
    all = all_append P first.more later.more first.all later.all;
  }

  grown_call : (s t : Shelved) (content : Content) → Grown P s t → P content → Grown P s (called t content)
  grown_call s t content grown holds = record {
    more = grown.more ++ content ∷ [];
    is = ap (λ cs. cs ++ content ∷ []) grown.is ∙ append_assoc s.calls grown.more (content ∷ []);
    all = all_append P grown.more (content ∷ []) grown.all (holds, tt);
  }

  pub grown_failed : (s t : Shelved) → Grown P s t → Grown P s (failed t)
  grown_failed s t grown = record { more = grown.more; is = grown.is; all = grown.all }

  pub grown_all : (s t : Shelved) → Grown P s t → AllByRecursion P (drop (length s.calls) t.calls)
  grown_all s t grown =
      subst (AllByRecursion P) (sym (ap (drop (length s.calls)) grown.is ∙ drop-append_seam s.calls grown.more)) grown.all

-- ---- the calls of a request

module _ (b : OnShelf) (request : Request) (shown : IsShown b) where
  abbrev P : Content → Type 0
  P content = IsBeforeOrAfter b.state request content

  -- so many moves that were due are made
  moved : (i : ℕ) → Grown P b.shelf (moved_on i b).shelf
  moved i =
      grown_by P (map Make (take i b.due)) b.shelf
      (all_weaker (Says b.state) P (λ c r. inl r) (contents_along (map Make (take i b.due)) b.shelf.content)
      (moves_read b.state.opening b.state.events b.due b.shelf i shown.reads shown.can).0)

  -- all of them
  all : Grown P b.shelf (settled b).shelf
  all =
      grown_by P (map Make b.due) b.shelf
      (all_weaker (Says b.state) P (λ c r. inl r) (contents_along (map Make b.due) b.shelf.content)
      (all_moves b.state.opening b.state.events b.due b.shelf shown.reads shown.can).0)

  still : IsRead b.state.opening b.state.events [] (finite.get (settled b).shelf.content)
  still = (all_moves b.state.opening b.state.events b.due b.shelf shown.reads shown.can).1

  -- and so many files are read
  looks_made : (i : ℕ) → Grown P b.shelf (looked i (settled b)).shelf
  looks_made i =
      grown_then P b.shelf (settled b).shelf (looked i (settled b)).shelf all
      (grown_by P (looks i) (settled b).shelf (all_looks P i (settled b).shelf.content (inl still.reads)))

  -- where a move that was due failed
  pub due_stops : (after : OnShelf) → FaultsAtMoves b after → EachCallReads b request after
  due_stops after faults =
      subst (EachCallReads b request) (sym faults.2)
      (grown_all P b.shelf (failed (moved_on faults.0 b).shelf) (grown_failed P b.shelf (moved_on faults.0 b).shelf (moved faults.0)))

  module _ (mid : OnShelf) (first : mid ≡ settled b) where
    -- where the event isn't in
    pub before_stops : (stop : Refusal) (after : OnShelf) → Enters mid request (Err stop) after → EachCallReads b request after
    before_stops stop after enters = by (subst (λ m. Enters m request (Err stop) after) first enters)
      where
        by : Enters (settled b) request (Err stop) after → EachCallReads b request after
        by (inl same) = subst (EachCallReads b request) (sym same.1) (grown_all P b.shelf (settled b).shelf all)
        by (inr fault) =
            subst (EachCallReads b request) (sym fault.1.2)
            (grown_all P b.shelf (failed (looked fault.1.0 (settled b)).shelf) (grown_failed P b.shelf (looked fault.1.0 (settled b)).shelf (looks_made fault.1.0)))

    -- where it is in
    module _ (told : Told) (there : OnShelf) (enters : Enters mid request (Ok told) there) (shows : IsShown there) where
      abbrev it : OnShelf
      it = entered request (settled b)

      there_is : there ≡ entered request (settled b)
      there_is = enters.1 ∙ ap (entered request) first

      says : IsShown (entered request (settled b))
      says = subst IsShown there_is shows

      in_now : Grown P b.shelf it.shelf
      in_now =
          let i = looks_for b.state request in
          let put = Make (entry_put (length_of b.state.events + 1) (event_of b.state request)) in
          let last = calls_more (looks i) put (settled b).shelf in
          subst (Grown P b.shelf) (sym last)
          (grown_call P b.shelf (played (looks i) (settled b).shelf) (left_by (played (looks i) (settled b).shelf).content put) (looks_made i)
          (subst (λ (t : Shelved). P t.content) last (inr says.reads.reads)))

      moved_then : (i : ℕ) → Grown P b.shelf (moved_on i it).shelf
      moved_then i =
          grown_then P b.shelf it.shelf (moved_on i it).shelf in_now
          (grown_by P (map Make (take i it.due)) it.shelf
          (all_weaker (Says it.state) P (λ c r. inr r) (contents_along (map Make (take i it.due)) it.shelf.content)
          (moves_read it.state.opening it.state.events it.due it.shelf i says.reads says.can).0))

      pub after_stops : (after : OnShelf) → after ≡ settled there → EachCallReads b request after
      after_stops after is =
          subst (EachCallReads b request) (sym (is ∙ ap settled there_is))
          (grown_all P b.shelf (settled it).shelf
          (grown_then P b.shelf it.shelf (settled it).shelf in_now
          (grown_by P (map Make it.due) it.shelf
          (all_weaker (Says it.state) P (λ c r. inr r) (contents_along (map Make it.due) it.shelf.content)
          (all_moves it.state.opening it.state.events it.due it.shelf says.reads says.can).0))))

      -- where one of its moves failed
      pub amid_stops : (after : OnShelf) → FaultsAtMoves there after → EachCallReads b request after
      amid_stops after faults =
          let f = subst (λ t. FaultsAtMoves t after) there_is faults in
          subst (EachCallReads b request) (sym f.2)
          (grown_all P b.shelf (failed (moved_on f.0 it).shelf) (grown_failed P b.shelf (moved_on f.0 it).shelf (moved_then f.0)))
