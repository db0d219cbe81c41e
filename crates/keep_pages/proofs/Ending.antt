-- The last event of a history, by what is told of it and by what its events left.
use Rattle.std.proofs.Common.{◌≡◌, ◌∙◌, ℕ, List, [], ◌∷◌, Option, Some, None, ap, subst, sym}
use Rattle.std.specs.List.{fold}
use Rattle.std.specs.Option.{option_map}
use Rattle.std.specs.Prelude.{IfSome}
use Rattle.std.proofs.lemmas.Option.{same_Some}
use Rattle.keep_repo.specs.Repository.{Repository}
use Rattle.keep_change.specs.Fold.{Numbered}
use Rattle.keep_change.specs.Marks.{marks_of}
use Rattle.keep_change.specs.declared.change.PackMark.{PackMark}
use Rattle.keep_change.specs.declared.outline.What.TheVariants as what
use Rattle.keep_journal.specs.Event.{committing, emptying, redoing, undoing, what_by}
use Rattle.keep_journal.specs.History.{change_of, final_after, final_number, last_marks, marks_after, IsLegal}
use Rattle.keep_journal.specs.Journal.{Journal}
use Rattle.keep_journal.specs.Kept.{later}
use Rattle.keep_journal.specs.Opening.{IsOpen, unfold_of}
use Rattle.keep_journal.specs.declared.event.Entry.{Entry}
use Rattle.keep_journal.specs.declared.event.Event.{Event}
use Rattle.keep_journal.specs.declared.event.EventKind.{EventKind}
use Rattle.keep_journal.specs.declared.event.EventKind.TheVariants.{Commit, Undo, Redo, Empty}
use Rattle.keep_journal.specs.declared.event.Notice.{Notice}
use Rattle.keep_journal.proofs.Kept.{kept_later}
use Rattle.keep_ledger.proofs.Steps.{opening_told}
use Rattle.keep_opening.proofs.Lasting.{LastTold, commit_told}
use Rattle.keep_reading.specs.Settled.{last_event}

-- ---- an emptying that comes last

record LastEmptied (final n : ℕ) (has : Option (List PackMark)) (marks : List PackMark) : Type 0 where
  final_is : final ≡ n
  marks_are : has ≡ Some marks

emptied_from : (o : Option Event) (f : ℕ) (m : Option (List PackMark)) (es : List Entry) (n : ℕ) (marks : List PackMark)
    → (o ≡ Some (emptying n marks) → LastEmptied f n m marks) → fold (λ before e. Some e.event) o es ≡ Some (emptying n marks)
    → LastEmptied (fold (λ before e. final_after before e.event) f es) n (fold (λ before e. marks_after before e.event) m es) marks
emptied_from o f m [] n marks start last = start last
emptied_from o f m (e ∷ es) n marks start last =
    emptied_from (Some e.event) (final_after f e.event) (marks_after m e.event) es n marks
    (λ is.
    let same : e.event ≡ emptying n marks = same_Some e.event (emptying n marks) is in
    record { final_is = ap (final_after f) same; marks_are = ap (marks_after m) same })
    last

emptied : (j : Journal) (n : ℕ) (marks : List PackMark) → last_event j ≡ Some (emptying n marks) → LastEmptied (final_number j) n (last_marks j) marks
emptied j n marks last = emptied_from None j.base None j.entries n marks (λ is. cc is) last

-- ---- what is told of it

module _ (j : Journal) (x : Notice) (told : LastTold j x) where
  pub commit_last : IsLegal j → x.what ≡ what.Commit → option_map (committing x.change) (change_of j x.change) ≡ last_event j
  commit_last legal is = by told.event.number told.event.kind told.is (sym is ∙ told.what) told.number where
    by : (n : ℕ) (kind : EventKind) → last_event j ≡ Some (record { number = n; kind = kind }) → what.Commit ≡ what_by kind → x.change ≡ n
        → option_map (committing x.change) (change_of j x.change) ≡ last_event j
    by n (Commit c) last w same =
        ap (λ (m : ℕ). option_map (committing m) (change_of j m)) same
        ∙ ap (option_map (committing n)) (commit_told j n c legal last) ∙ sym last
    by n Undo last w same = cc w
    by n Redo last w same = cc w
    by n (Empty marks) last w same = cc w

  pub undo_last : x.what ≡ what.Undo → ◌≡◌ {A = Option Event} (Some (undoing x.change)) (last_event j)
  undo_last is = by told.event.number told.event.kind told.is (sym is ∙ told.what) told.number where
    by : (n : ℕ) (kind : EventKind) → last_event j ≡ Some (record { number = n; kind = kind }) → what.Undo ≡ what_by kind → x.change ≡ n
        → ◌≡◌ {A = Option Event} (Some (undoing x.change)) (last_event j)
    by n (Commit c) last w same = cc w
    by n Undo last w same = ap (λ (m : ℕ). Some (undoing m)) same ∙ sym last
    by n Redo last w same = cc w
    by n (Empty marks) last w same = cc w

  pub redo_last : x.what ≡ what.Redo → ◌≡◌ {A = Option Event} (Some (redoing x.change)) (last_event j)
  redo_last is = by told.event.number told.event.kind told.is (sym is ∙ told.what) told.number where
    by : (n : ℕ) (kind : EventKind) → last_event j ≡ Some (record { number = n; kind = kind }) → what.Redo ≡ what_by kind → x.change ≡ n
        → ◌≡◌ {A = Option Event} (Some (redoing x.change)) (last_event j)
    by n (Commit c) last w same = cc w
    by n Undo last w same = cc w
    by n Redo last w same = ap (λ (m : ℕ). Some (redoing m)) same ∙ sym last
    by n (Empty marks) last w same = cc w

  -- the marks of the opening are those of the last emptying
  pub empty_last : (opening live : Repository) (made : List PackMark) → IsOpen opening j live → x.what ≡ what.Empty
      → made ≡ marks_of (unfold_of (later j x.change) live) → ◌≡◌ {A = Option Event} (Some (emptying x.change made)) (last_event j)
  empty_last opening live made is_open is under = by told.event.number told.event.kind told.is (sym is ∙ told.what) told.number where
    by : (n : ℕ) (kind : EventKind) → last_event j ≡ Some (record { number = n; kind = kind }) → what.Empty ≡ what_by kind → x.change ≡ n
        → ◌≡◌ {A = Option Event} (Some (emptying x.change made)) (last_event j)
    by n (Commit c) last w same = cc w
    by n Undo last w same = cc w
    by n Redo last w same = cc w
    by n (Empty marks) last w same =
        let end = emptied j n marks last in
        let kept_there = ap (later j) (same ∙ sym end.final_is) ∙ kept_later j in
        let opening_there = ap (λ (ns : List Numbered). unfold_of ns live) kept_there ∙ opening_told opening j live is_open in
        let recorded : marks ≡ marks_of opening =
        subst (λ (o : Option (List PackMark)). IfSome o (λ ms. ms ≡ marks_of opening)) end.marks_are is_open.marks in
        let marks_there : made ≡ marks = under ∙ ap marks_of opening_there ∙ sym recorded in
        ap (λ (m : ℕ). Some (emptying m made)) same ∙ ap (λ (ms : List PackMark). Some (emptying n ms)) marks_there ∙ sym last
