-- What is given back of a shelf that isn't opened.
use Rattle.std.proofs.Common.{◌≡◌, ◌∙◌, ℕ, ◌+◌, ◌<◌, ◌++◌, List, ap, arith, inl, inr, length, map, refl, subst, sym, take}
use Rattle.std.specs.Prelude.{◌≢◌}
use Rattle.std.specs.FinMap as finite
use Rattle.keep_repo.specs.Repository.{Repository}
use Rattle.keep_journal.specs.Journal.{Journal}
use Rattle.keep_journal.specs.Lasting.{lasting}
use Rattle.keep_shelf.specs.Shelved.{Content, Shelved, failed, risen}
use Rattle.keep_moves.specs.Calls.{Make, looks, played}
use Rattle.keep_moves.specs.declared.moves.Move.{Move}
use Rattle.keep_moves.proofs.Erased.{all_weaker}
use Rattle.keep_moves.proofs.Played.{reads_leave}
use Rattle.keep_reading.specs.Reads.{Reads}
use Rattle.keep_reading.proofs.Checked.{one_reading_lem}
use Rattle.keep_opening.specs.Intake.{StopsShort}
use Rattle.keep_opening.specs.declared.open_error.OpenError.{OpenError}
use Rattle.keep_opening.specs.declared.open_error.OpenError.TheVariants.{BadEntry, Fault, Memory}
use Rattle.keep_reading.specs.Laws.{contents_along}
use Rattle.keep_reading.proofs.Moving.{moves_read}
use Rattle.keep_reading.proofs.Stopping.{all_looks}
use Rattle.keep_opening.specs.Remaining.{due_in}
use Rattle.keep_ledger.specs.Ends.{FaultsAtMoves}
use Rattle.keep_ledger.specs.OnShelf.{OnShelf}
use Rattle.keep_ledger.specs.Opened.{IsGivenBack, IsReadOf, SaysStill, StopsOpening, failures_left}
use Rattle.keep_ledger.specs.Stops.{IsShown}
use Rattle.keep_ledger.proofs.Counted.{no_failure, played_more}
use Rattle.keep_ledger.proofs.Stopping.{Grown, grown_all, grown_by, grown_failed, grown_then}

module _ (s : Shelved) where
  abbrev P : Content → Type 0
  P content = SaysStill s.content content

  abbrev count : ℕ
  count = 1 + length (finite.keys s.content)

  says_itself : P s.content
  says_itself opening events reads = reads

  -- ---- where it was only read

  read_grows : (i : ℕ) → Grown P s (played (looks i) s)
  read_grows i = grown_by P (looks i) s (all_looks P i s.content says_itself)

  -- so many reads were made, and then no call failed
  read_only : (error : OpenError) (i : ℕ) (left : Shelved) → StopsOpening s error left → failures_left error s.failures ≡ s.failures → left ≡ played (looks i) s → IsGivenBack s error left
  read_only error i left stops none is = record {
    calls = stops;
    failures = ap (λ (t : Shelved). t.failures) is ∙ no_failure (looks i) s ∙ sym none;
    same = λ other. ap (λ (t : Shelved). t.content) is ∙ reads_leave i s;
    says = subst P (sym (ap (λ (t : Shelved). t.content) is ∙ reads_leave i s)) says_itself;
    stops = grown_all P s left (subst (Grown P s) (sym is) (read_grows i));
  }

  -- and then one failed
  read_failed : (i : ℕ) (left : Shelved) → StopsOpening s Fault left → left ≡ failed (played (looks i) s) → IsGivenBack s Fault left
  read_failed i left stops is = record {
    calls = stops;
    failures = ap (λ (t : Shelved). t.failures) is ∙ ap risen (no_failure (looks i) s);
    same = λ other. absurd (other refl);
    says = subst P (sym (ap (λ (t : Shelved). t.content) is ∙ reads_leave i s)) says_itself;
    stops = grown_all P s left (subst (Grown P s) (sym is) (grown_failed P s (played (looks i) s) (read_grows i)));
  }

  -- not all could be taken in
  pub short_given : (error : OpenError) (left : Shelved) → StopsShort count s error left → IsGivenBack s error left
  short_given (BadEntry k) left short = absurd short
  short_given Fault left short = read_failed short.0 left (inl short) short.2
  short_given Memory left short = read_only Memory short.0 left short refl short.2

  -- what was taken in says nothing, or memory ran out behind that
  pub read_given : (error : OpenError) (left : Shelved) → error ≢ Fault → left ≡ played (looks count) s → IsGivenBack s error left
  read_given (BadEntry k) left other is = read_only (BadEntry k) count left is refl is
  read_given Fault left other is = absurd (other refl)
  read_given Memory left other is = read_only Memory count left (count, omega arith, is) refl is

  pub memory_given : (error : OpenError) (left : Shelved) → error ≡ Memory → left ≡ played (looks count) s → IsGivenBack s error left
  memory_given error left ran_out is = read_given error left (λ fault. out (sym ran_out ∙ fault)) is
    where
      out : Memory ≡ Fault → ⊥
      out same = cc same

  -- ---- where a move failed that was left

  module _ (b after : OnShelf) (is : IsReadOf s b) (shown : IsShown b) (faults : FaultsAtMoves b after) where
    abbrev made : ℕ
    made = faults.0

    abbrev moves : List Move
    moves = take made b.due

    abbrev reached : Shelved
    reached = played (map Make moves) b.shelf

    content_same : b.shelf.content ≡ s.content
    content_same = ap (λ (t : Shelved). t.content) is.shelf ∙ reads_leave count s

    told_there : Reads (finite.get s.content) b.state.opening (lasting b.state.events)
    told_there = subst (λ (d : Content). Reads (finite.get d) b.state.opening (lasting b.state.events)) content_same shown.reads.reads

    -- what says what the ledger says
    still : (content : Content) → Reads (finite.get content) b.state.opening (lasting b.state.events) → P content
    still content reads opening events before =
        let same = one_reading_lem (finite.get s.content) opening b.state.opening events (lasting b.state.events) before told_there in
        subst (λ (o : Repository). Reads (finite.get content) o events) (sym same.0)
        (subst (λ (j : Journal). Reads (finite.get content) b.state.opening j) (sym same.1) reads)

    run : Grown P s reached
    run =
        let read = moves_read b.state.opening b.state.events b.due b.shelf made shown.reads shown.can in
        grown_then P s b.shelf reached (subst (Grown P s) (sym is.shelf) (read_grows count))
        (grown_by P (map Make moves) b.shelf
        (all_weaker (λ content. Reads (finite.get content) b.state.opening (lasting b.state.events)) P still (contents_along (map Make moves) b.shelf.content) read.0))

    whole : reached ≡ played (looks count ++ map Make (take made (due_in b.state.events s.content))) s
    whole =
        ap (λ ms. played (map Make (take made ms)) b.shelf) is.due
        ∙ ap (played (map Make (take made (due_in b.state.events s.content)))) is.shelf
        ∙ sym (played_more (looks count) (map Make (take made (due_in b.state.events s.content))) s)

    pub fault_given : (left : Shelved) → left ≡ after.shelf → IsGivenBack s Fault left
    fault_given left last =
        let there : left ≡ failed reached = last ∙ ap (λ (a : OnShelf). a.shelf) faults.2 in
        let read = moves_read b.state.opening b.state.events b.due b.shelf made shown.reads shown.can in
        record {
          calls = inr (record {
            opening = b.state.opening;
            events = b.state.events;
            reads = is.reads;
            made = made;
            within = subst (λ (ms : List Move). made < length ms) is.due faults.1;
            shelf = there ∙ ap failed whole;
          });
          failures = ap (λ (t : Shelved). t.failures) there ∙ ap risen (no_failure (map Make moves) b.shelf ∙ ap (λ (t : Shelved). t.failures) is.shelf ∙ no_failure (looks count) s);
          same = λ other. absurd (other refl);
          says = subst P (sym (ap (λ (t : Shelved). t.content) there)) (still reached.content read.1.reads);
          stops = grown_all P s left (subst (Grown P s) (sym there) (grown_failed P s reached run));
        }
