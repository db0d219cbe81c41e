-- What a journal says of the changes that aren't final, it still tells.
use Rattle.std.proofs.Common.{◌≡◌, ℕ, ◌+◌, ◌<◌, ◌≤◌, ◌==◌, nat_lt, Bool, true, false, ◌&&◌, List, [], ◌∷◌, ◌++◌, length, refl, sym, ap, ap₂, ◌∙◌, arith, subst, IfSome, Option}
use Rattle.std.specs.List.{filter, find}
use Rattle.std.specs.Option.{option_map}
use Rattle.std.proofs.lemmas.Bool.{and_right, eq-eqb, ltb-true}
use Rattle.std.proofs.lemmas.Bool.Decides.{nat_tests}
use Rattle.std.proofs.lemmas.List.Elements.{All-filter, filter_agree}
use Rattle.keep_change.specs.Fold.{Numbered, first_break, fold_of}
use Rattle.keep_change.specs.Form.{IsWellFormed}
use Rattle.keep_change.specs.Limits.{facet_limit}
use Rattle.keep_change.specs.Marks.{marks_of}
use Rattle.keep_change.specs.Touch.{facets}
use Rattle.keep_change.specs.declared.change.PackMark.{PackMark}
use Rattle.keep_journal.specs.Event.{emptying}
use Rattle.keep_journal.specs.History.{change_of, committed, final_number, is_in_force}
use Rattle.keep_journal.specs.Journal.{Journal, posted}
use Rattle.keep_journal.specs.Kept.{is_kept, kept}
use Rattle.keep_journal.specs.declared.event.Entry.{Entry}
use Rattle.keep_journal.specs.declared.event.Event.{Event}
use Rattle.keep_journal.proofs.Commits.{final_number-push}
use Rattle.keep_journal.specs.Laws.{LastingGrows, LastingHasTheMarks, LastingIsOpen, LastingLasts, LastingShrinks, WhatLastsIsKept}
use Rattle.keep_journal.specs.Lasting.{lasts, lasting_among, lasting}
use Rattle.keep_journal.proofs.Filters.{filter-filter, find-filter, find_agree}
use Rattle.keep_journal.proofs.Legal.{legal_numbered, legal_told, none_numbered}
use Rattle.keep_journal.proofs.Long.{told_long, turn_tell}
use Rattle.keep_journal.proofs.Telling.{committed_told, count_told, final_told, force_told, marks_told, told_with}

pub final_is : (j : Journal) → final_number (lasting j) ≡ final_number j
final_is j = final_told (final_number j) j.entries

pub force_is : (j : Journal) (m : ℕ) → final_number j < m → is_in_force (lasting j) m ≡ is_in_force j m
force_is j m above = force_told (final_number j) m above j.entries false

pub change_is : (j : Journal) (m : ℕ) → final_number j < m → change_of (lasting j) m ≡ change_of j m
change_is j m above =
    ap (λ cs. option_map (λ (c : Numbered). c.change) (find (λ c. c.number == m) cs)) (committed_told (final_number j) j.entries)
    ∙ ap (option_map (λ (c : Numbered). c.change)) (find-filter (λ (c : Numbered). c.number == m) (λ c. nat_lt (final_number j) c.number) (committed j)
    ∙ find_agree (λ (c : Numbered). nat_lt (final_number j) c.number && (c.number == m)) (λ c. c.number == m) (λ c. it c.number) (committed j))
  where
    it : (n : ℕ) → (nat_lt (final_number j) n && (n == m)) ≡ (n == m)
    it n = grind (arith, nat_tests)

pub kept_is : (j : Journal) → kept (lasting j) ≡ kept j
kept_is j =
    ap (filter (λ (c : Numbered). is_kept (lasting j) c.number)) (committed_told (final_number j) j.entries)
    ∙ filter-filter (λ (c : Numbered). is_kept (lasting j) c.number) (λ c. nat_lt (final_number j) c.number) (committed j)
    ∙ filter_agree (λ (c : Numbered). nat_lt (final_number j) c.number && is_kept (lasting j) c.number) (λ c. is_kept j c.number) (λ c. same c.number) (committed j)
  where
    same : (m : ℕ) → (nat_lt (final_number j) m && is_kept (lasting j) m) ≡ is_kept j m
    same m = by (nat_lt (final_number j) m) refl
      where
        by : (b : Bool) → nat_lt (final_number j) m ≡ b → (b && is_kept (lasting j) m) ≡ is_kept j m
        by true above = ap₂ (λ t g. t && nat_lt g m) (force_is j m (ltb-true (final_number j) m above)) (final_is j)
        by false below = sym (and_right (is_in_force j m) (nat_lt (final_number j) m) below)

pub marks_is : LastingHasTheMarks
marks_is j = marks_told (final_number j) j.entries j.base _ _ refl (λ same. refl)

pub is_kept_by : WhatLastsIsKept
is_kept_by j legal =
    let numbered = legal_numbered j legal in
    let counted = ap length (committed_told (final_number j) j.entries) ∙ count_told (final_number j) (j.base + 1) (committed j) numbered.commits (omega (arith, numbered.first_final)) in
    record {
      final_is = final_is j;
      last_is = omega (arith, counted, numbered.last_final);
      kept_are = kept_is j;
      in_force = force_is j;
      changes = change_is j;
      length_is = told_long (final_number j) j.base j.entries (turn_tell (record { base = j.base; entries = [] }) j.entries (none_numbered j.base) legal) refl;
    }

pub is_open : LastingIsOpen
is_open opening j live is =
    let legal = legal_told j is.legal in
    let later = committed_told (final_number j) j.entries in
    record {
      numbered = legal_numbered (lasting j) legal;
      legal = legal;
      formed = rw later (All-filter (λ (c : Numbered). nat_lt (final_number j) c.number) (λ c. IsWellFormed c.change) (committed j) is.formed);
      within = rw later (All-filter (λ (c : Numbered). nat_lt (final_number j) c.number) (λ c. length (facets c.change) ≤ facet_limit) (committed j) is.within);
      unbroken = ap (λ cs. first_break cs opening) (kept_is j) ∙ is.unbroken;
      state = is.state ∙ sym (ap (λ cs. fold_of cs opening) (kept_is j));
      marks = subst (λ (o : Option (List PackMark)). IfSome o (λ marks. marks ≡ marks_of opening)) (sym (marks_is j)) is.marks;
    }

-- ---- after one more event

told_twice : (f : ℕ) (es : List Entry) → lasting_among f (lasting_among f es) ≡ lasting_among f es
told_twice f es =
    filter-filter (λ (e : Entry). lasts f e.event) (λ e. lasts f e.event) es
    ∙ filter_agree (λ (e : Entry). lasts f e.event && lasts f e.event) (λ e. lasts f e.event) (λ e. same (lasts f e.event)) es
  where
    same : (b : Bool) → (b && b) ≡ b
    same true = refl
    same false = refl

pub told_is_told : LastingLasts
told_is_told j =
    ap (λ g. record { base = g; entries = lasting_among g (lasting_among (final_number j) j.entries) }) (final_is j)
    ∙ ap (λ es. record { base = final_number j; entries = es }) (told_twice (final_number j) j.entries)

told_then : (j : Journal) (k : ℕ) (e : Event) (f : ℕ) → final_number (posted j k e) ≡ f → lasts f e ≡ true
    → lasting (posted j k e) ≡ posted (record { base = f; entries = lasting_among f j.entries }) k e
told_then j k e f final told =
    ap (λ g. record { base = g; entries = lasting_among g (j.entries ++ record { at = k; event = e } ∷ []) }) final
    ∙ ap (λ es. record { base = f; entries = es }) (told_with f j.entries (record { at = k; event = e }) told)

pub told_grows : LastingGrows
told_grows j k e told final = told_then j k e (final_number j) final told

pub told_shrinks : LastingShrinks
told_shrinks j k n marks = told_then j k (emptying n marks) n (final_number-push j k (emptying n marks)) (eq-eqb n n refl)
