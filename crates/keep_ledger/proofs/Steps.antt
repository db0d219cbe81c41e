-- What an event leaves of the opening, the live repository and the fold between them.
use Rattle.std.proofs.Common.{◌≡◌, ℕ, zero, suc, ◌+◌, ◌<◌, ◌≤◌, true, List, [], ◌∷◌, ◌++◌, length, None, refl, sym, ap, ◌∙◌, subst, arith}
use Rattle.std.specs.List.{list_all}
use Rattle.std.proofs.lemmas.List.Elements.{All-push}
use Rattle.keep_repo.specs.Repository.{Repository, held}
use Rattle.keep_change.specs.Change.{asked, is_as_asked, is_met, is_ready}
use Rattle.keep_change.specs.Fold.{Numbered, fold_of, first_break}
use Rattle.keep_change.specs.Form.{IsWellFormed}
use Rattle.keep_change.specs.Law.{HaveNoFacetTwice}
use Rattle.keep_change.specs.Limits.{facet_limit}
use Rattle.keep_change.specs.Marks.{marks_of}
use Rattle.keep_change.specs.Result.{result_of, reverse_of}
use Rattle.keep_change.specs.Touch.{facets}
use Rattle.keep_change.specs.declared.change.Change.{Change}
use Rattle.keep_change.specs.declared.change.PackMark.{PackMark}
use Rattle.keep_change.proofs.History.{taking_back_restores_lem}
use Rattle.keep_change.proofs.Law.{no_break}
use Rattle.keep_change.proofs.Records.{and_first}
use Rattle.keep_journal.specs.History.{committed, final_number, last_change, length_of, ComesNext}
use Rattle.keep_journal.specs.Journal.{Journal, posted}
use Rattle.keep_journal.specs.Kept.{kept, later, up_to}
use Rattle.keep_journal.specs.Event.{committing, emptying}
use Rattle.keep_journal.proofs.Commits.{committed-Commit, committed-Empty, fits-Empty, last_marks-push, IsLegal-push, IsNumbered-push}
use Rattle.keep_journal.proofs.Kept.{kept-Commit, kept-Empty, kept_split, fold_of-append}
use Rattle.keep_journal.specs.Opening.{IsOpen, opening_under, unfold_of}
use Rattle.keep_journal.proofs.Later.{no_facet_twice}
use Rattle.keep_ledger.specs.LedgerState.{LedgerState}
use Rattle.keep_ledger.specs.Made.{ledger_over}

-- ---- folds

-- what stands after a part of a fold that has no break has none either
pub break_rest : (xs ys : List Numbered) (r : Repository) → first_break (xs ++ ys) r ≡ None → first_break ys (fold_of xs r) ≡ None
break_rest [] ys r none = none
break_rest (x ∷ xs) ys r none =
    break_rest xs ys (result_of x.change r) (no_break (is_met (held r) x.change) (first_break (xs ++ ys) (result_of x.change r)) x.number none).1

-- one more change that is met breaks nothing
break_push : (xs : List Numbered) (x : Numbered) (r : Repository) → first_break xs r ≡ None → is_met (held (fold_of xs r)) x.change ≡ true → first_break (xs ++ x ∷ []) r ≡ None
break_push [] x r none met = rw met refl
break_push (y ∷ xs) x r none met =
    let parts = no_break (is_met (held r) y.change) (first_break xs (result_of y.change r)) y.number none in
    rw parts.0 (break_push xs x (result_of y.change r) parts.1 met)

-- ---- the opening under a live repository

-- changes that are made in turn and taken back, the last first, leave what was there
pub unfold_fold : (ns : List Numbered) (r : Repository) → HaveNoFacetTwice ns → first_break ns r ≡ None → unfold_of ns (fold_of ns r) ≡ r
unfold_fold [] r once none = refl
unfold_fold (n ∷ ns) r once none =
    let parts = no_break (is_met (held r) n.change) (first_break ns (result_of n.change r)) n.number none in
    let ready : is_ready (held r) n.change ≡ true =
    and_first (is_ready (held r) n.change) (list_all (is_as_asked (held r)) (asked n.change)) parts.0 in
    ap (result_of (reverse_of n.change)) (unfold_fold ns (result_of n.change r) (λ k d within. once (suc k) d (omega arith)) parts.1)
    ∙ taking_back_restores_lem n.change r (once zero n (omega arith)) ready

-- the opening is what is left when the kept changes are taken back
pub opening_told : (opening : Repository) (j : Journal) (live : Repository) → IsOpen opening j live → opening_under j live ≡ opening
opening_told opening j live is =
    ap (unfold_of (kept j)) is.state ∙ unfold_fold (kept j) opening (no_facet_twice _ j is.formed) is.unbroken

pub open_under : (opening : Repository) (j : Journal) (live : Repository) → IsOpen opening j live → IsOpen (opening_under j live) j live
open_under opening j live is = subst (λ (r : Repository). IsOpen r j live) (sym (opening_told opening j live is)) is

-- what a book shows is a book of its events over its opening
pub shown : (opening : Repository) (j : Journal) (live : Repository) → IsOpen opening j live
    → ◌≡◌ {A = LedgerState} (record { opening = opening_under j live; events = j; live = live }) (ledger_over opening j)
shown opening j live is = rw (opening_told opening j live is, is.state) refl

-- ---- one more event

-- a commit of a change that is met
pub open-Commit : (opening : Repository) (j : Journal) (live : Repository) (k n : ℕ) (c : Change) → IsOpen opening j live → length_of j < k
    → n ≡ last_change j + 1 → IsWellFormed c → length (facets c) ≤ facet_limit → is_met (held live) c ≡ true
    → IsOpen opening (posted j k (committing n c)) (result_of c live)
open-Commit opening j live k n c is above next formed within met =
    let it : Numbered = record { number = n; change = c } in
    let met_there : is_met (held (fold_of (kept j) opening)) c ≡ true = subst (λ r. is_met (held r) c ≡ true) is.state met in
    let more = kept-Commit j k n c is.numbered next in
    record {
      numbered = IsNumbered-push j (record { at = k; event = committing n c }) is.numbered (record { above = above; fits = next });
      legal = IsLegal-push j (record { at = k; event = committing n c }) is.legal (record { above = above; fits = next });
      formed = rw (committed-Commit j k n c) (All-push (λ m. IsWellFormed m.change) (committed j) it is.formed formed);
      within = rw (committed-Commit j k n c) (All-push (λ m. length (facets m.change) ≤ facet_limit) (committed j) it is.within within);
      unbroken = rw more (break_push (kept j) it opening is.unbroken met_there);
      state = rw more (ap (result_of c) is.state ∙ sym (fold_of-append (kept j) (it ∷ []) opening));
      marks = rw (last_marks-push j k (committing n c)) is.marks;
    }

-- an emptying moves the opening, and leaves the live repository
pub open-Empty : (opening : Repository) (j : Journal) (live : Repository) (k n : ℕ) (marks : List PackMark) → IsOpen opening j live → length_of j < k
    → final_number j < n → n ≤ last_change j → marks ≡ marks_of (fold_of (up_to j n) opening) → IsOpen (fold_of (up_to j n) opening) (posted j k (emptying n marks)) live
open-Empty opening j live k n marks is above low high recorded =
    let parts = kept_split j n is.numbered in
    let whole : first_break (up_to j n ++ later j n) opening ≡ None = subst (λ ns. first_break ns opening ≡ None) parts is.unbroken in
    let left = kept-Empty j k n marks (omega arith) in
    let next : ComesNext j (record { at = k; event = emptying n marks }) = record { above = above; fits = fits-Empty j n marks low high } in
    record {
      numbered = IsNumbered-push j (record { at = k; event = emptying n marks }) is.numbered next;
      legal = IsLegal-push j (record { at = k; event = emptying n marks }) is.legal next;
      formed = rw (committed-Empty j k n marks) is.formed;
      within = rw (committed-Empty j k n marks) is.within;
      unbroken = rw left (break_rest (up_to j n) (later j n) opening whole);
      state = rw left (is.state ∙ ap (λ ns. fold_of ns opening) parts ∙ fold_of-append (up_to j n) (later j n) opening);
      marks = rw (last_marks-push j k (emptying n marks)) recorded;
    }

-- ---- what is written back

-- what a step writes back, which should be these events over this opening, is a book, and shows them
pub record WrittenBack (opening : Repository) (j written : Journal) (live : Repository) : Type 0 where
  pub is_open : IsOpen (opening_under written live) written live
  pub shows : ◌≡◌ {A = LedgerState} (record { opening = opening_under written live; events = written; live = live }) (ledger_over opening j)

pub written_back : (opening : Repository) (j written : Journal) (live : Repository) → IsOpen opening j live → written ≡ j → WrittenBack opening j written live
written_back opening j written live is same =
    rw same (record { is_open = open_under opening j live is; shows = shown opening j live is })
