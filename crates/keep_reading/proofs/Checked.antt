-- What is tested makes a reading, and what has a reading passes the tests.
use Rattle.std.proofs.Common.{◌≡◌, ◌≤◌, ℕ, Bool, true, false, cond, List, [], ◌∷◌, length, All, Option, Some, None, IfSome, refl, sym, ap, ap₂, ◌∙◌, subst}
use Rattle.std.specs.FinMap as finite
use Rattle.std.specs.List.{AllByRecursion, cons_option, filter, filter_map}
use Rattle.std.specs.Option.{unwrap_or}
use Rattle.std.proofs.lemmas.List.Elements.{All-from_recursion, All-weaker}
use Rattle.keep_names.proofs.Orders.{name_exact, name_total}
use Rattle.keep_names.specs.Orders.{id_cmp}
use Rattle.keep_repo.specs.Repository.{Repository}
use Rattle.keep_repo.specs.declared.facet.Mark as the_mark
use Rattle.keep_change.specs.Fold.{Numbered, fold_of}
use Rattle.keep_change.specs.Form.{IsWellFormed}
use Rattle.keep_change.specs.Limits.{facet_limit}
use Rattle.keep_change.specs.Marks.{marks_of}
use Rattle.keep_change.specs.Touch.{facets}
use Rattle.keep_change.specs.declared.change.PackMark.{PackMark}
use Rattle.keep_journal.specs.Event.{commit_by, commit_of}
use Rattle.keep_journal.specs.History.{committed, last_marks}
use Rattle.keep_journal.specs.Journal.{Journal}
use Rattle.keep_journal.specs.Kept.{kept}
use Rattle.keep_journal.specs.Opening.{IsOpen, unfold_of}
use Rattle.keep_journal.specs.declared.event.Entry as the_entry
use Rattle.keep_journal.specs.declared.event.EventKind.{EventKind}
use Rattle.keep_journal.specs.declared.event.EventKind.TheVariants.{Commit, Undo, Redo, Empty}
use Rattle.keep_journal.specs.Lasting.{Follow, lasts}
use Rattle.keep_journal.proofs.KeptTold.{marks_is}
use Rattle.keep_journal.proofs.Legal.{legal_numbered}
use Rattle.keep_shelf.specs.declared.key.Key.TheVariants.{Live}
use Rattle.keep_entries.specs.Entry.{IsEntry, IsProper}
use Rattle.keep_moves.specs.Move.{Stand}
use Rattle.keep_reading.specs.Checks.{AreLive, Files, IsTrash, WhatPassesIsRead, WhatReadsPasses, opening_from}
use Rattle.keep_reading.specs.Lists.{Lists}
use Rattle.keep_reading.specs.Reads.{OneReading, Reads, all_of, marks_in, told}
use Rattle.keep_reading.specs.Settled.{settled}
use Rattle.keep_reading.proofs.Listed.{lists_same}
use Rattle.keep_reading.proofs.Marks.{marks_in_order, marks_put, same_marks}
use Rattle.keep_reading.proofs.Openings.{files_under, opening_told}

-- ---- what the entries tell is well formed

all_filter : {X : Type 0} (P : X → Type 0) (p : X → Bool) (xs : List X) → AllByRecursion P xs → AllByRecursion P (filter p xs)
all_filter P p [] all = tt
all_filter P p (x ∷ xs) all = by (p x) (all_filter P p xs all.1)
  where
    by : (b : Bool) → AllByRecursion P (filter p xs) → AllByRecursion P (cond b (x ∷ filter p xs) (filter p xs))
    by true rest = (all.0, rest)
    by false rest = rest

committed_all : (P : Numbered → Type 0) (es : List the_entry.Entry) → AllByRecursion (λ e. IfSome (commit_of e.event) P) es → AllByRecursion P (filter_map (λ e. commit_of e.event) es)
committed_all P [] all = tt
committed_all P (e ∷ es) all = by (commit_of e.event) all.0 (committed_all P es all.1)
  where
    by : (o : Option Numbered) → IfSome o P → AllByRecursion P (filter_map (λ x. commit_of x.event) es) → AllByRecursion P (cons_option o (filter_map (λ x. commit_of x.event) es))
    by None h rest = rest
    by (Some n) h rest = (h, rest)

abbrev pub IsProperChange : Numbered → Type 0
IsProperChange n = IsWellFormed n.change × (length (facets n.change) ≤ facet_limit)

proper_commit : (n : ℕ) (kind : EventKind) → IsProper kind → IfSome (commit_by n kind) IsProperChange
proper_commit n (Commit c) proper = proper
proper_commit n Undo proper = tt
proper_commit n Redo proper = tt
proper_commit n (Empty marks) proper = tt

proper_commits : (es : List the_entry.Entry) → AllByRecursion IsEntry es → AllByRecursion (λ e. IfSome (commit_of e.event) IsProperChange) es
proper_commits [] each = tt
proper_commits (e ∷ es) each = (proper_commit e.event.number e.event.kind each.0.proper, proper_commits es each.1)

pub told_proper : (es : List the_entry.Entry) → AllByRecursion IsEntry es → All IsProperChange (committed (told es))
told_proper es each =
    All-from_recursion IsProperChange (committed (told es))
    (committed_all IsProperChange (told es).entries (proper_commits (told es).entries (all_filter IsEntry (λ e. lasts (told es).base e.event) es each)))

-- ---- the opening

-- its marks are those of the last emptying
opening_marks : (es : List the_entry.Entry) (files : Files) → AllByRecursion IsEntry es → marks_of (opening_from files es) ≡ marks_in es
opening_marks es files each = marks_put (marks_in es) (marks_in_order es each)

abbrev made_of : Files → finite.FinMap id_cmp the_mark.Mark → Repository
made_of files marks = record { files = files; marks = marks }

same_opening : (o p : Repository) → o.files ≡ p.files → marks_of o ≡ marks_of p → o ≡ p
same_opening o p files marks = ap₂ made_of files (same_marks o.marks p.marks marks)

-- ---- a reading

module _ (stand : Stand) (o : Repository) (j : Journal) (es : List the_entry.Entry) (files : Files)
    (reads : Reads stand o j) (lists : Lists stand es) (live : AreLive (told es) stand files) where
  listed : reads.entries ≡ es
  listed = lists_same stand reads.entries es reads.lists lists

  -- it is of what the entries tell
  pub tells : j ≡ told es
  tells = reads.tells ∙ ap told listed

  live_files : reads.live.files ≡ files
  live_files = finite.same_map name_total name_exact reads.live.files files (λ name.
      sym (reads.files name) ∙ ap (λ (i : Journal). settled i stand (Live name)) tells ∙ live name)

  -- over the opening that is under the live files
  pub opens : o ≡ opening_from files es
  opens =
      let under : unfold_of (kept j) reads.live ≡ o = opening_told o j reads.live reads.is_open in
      let rest = files_under (kept j) reads.live (made_of files finite.empty) live_files in
      same_opening o (opening_from files es)
      (sym (ap (λ (r : Repository). r.files) under) ∙ rest ∙ ap (λ (i : Journal). (unfold_of (kept i) (made_of files finite.empty)).files) tells)
      (reads.marks ∙ ap marks_in listed ∙ sym (opening_marks es files lists.each))

-- ---- the laws

pub what_reads_passes_lem : WhatReadsPasses
what_reads_passes_lem stand o j es files reads lists live =
    let tells_es = tells stand o j es files reads lists live in
    let opens_es = opens stand o j es files reads lists live in
    let listed_es = listed stand o j es files reads lists live in
    let open_es : IsOpen (opening_from files es) (told es) reads.live =
    subst (λ (p : Repository). IsOpen p (told es) reads.live) opens_es (subst (λ (i : Journal). IsOpen o i reads.live) tells_es reads.is_open) in
    record {
      journal = record {
        lists = lists;
        follow = subst (Follow 0) listed_es reads.follow;
        legal = open_es.legal;
      };
      live = live;
      unbroken = open_es.unbroken;
      same = sym (ap (λ (r : Repository). r.files) open_es.state) ∙ live_files stand o j es files reads lists live;
      trash = subst (λ (i : Journal). IsTrash i stand) tells_es reads.trash;
    }

pub what_passes_is_read_lem : WhatPassesIsRead
what_passes_is_read_lem stand es files passes =
    let o : Repository = opening_from files es in
    let each = passes.journal.lists.each in
    let all = told_proper es each in
    let marks = opening_marks es files each in
    record {
      entries = es;
      lists = passes.journal.lists;
      follow = passes.journal.follow;
      tells = refl;
      marks = marks;
      live = fold_of (kept (told es)) o;
      is_open = record {
        numbered = legal_numbered (told es) passes.journal.legal;
        legal = passes.journal.legal;
        formed = All-weaker IsProperChange (λ n. IsWellFormed n.change) (λ n h. h.0) (committed (told es)) all;
        within = All-weaker IsProperChange (λ n. length (facets n.change) ≤ facet_limit) (λ n h. h.1) (committed (told es)) all;
        unbroken = passes.unbroken;
        state = refl;
        marks = last o (last_marks (told es)) (marks_is (all_of es)) marks;
      };
      files = λ name. passes.live name ∙ ap (λ (fs : Files). finite.get fs name) (sym passes.same);
      trash = passes.trash;
    }
  where
    last : (o : Repository) (ms : Option (List PackMark)) → ms ≡ last_marks (all_of es) → marks_of o ≡ marks_in es → IfSome ms (λ marks. marks ≡ marks_of o)
    last o None same is = tt
    last o (Some ms) same is = ap (λ (x : Option (List PackMark)). unwrap_or x []) same ∙ sym is

pub one_reading_lem : OneReading
one_reading_lem stand o p i j r s =
    let es = s.entries in
    let first = r.entries in
    let same = lists_same stand first es r.lists s.lists in
    let live : AreLive (told es) stand s.live.files = subst (λ (x : Journal). AreLive x stand s.live.files) s.tells s.files in (
      opens stand o i es s.live.files r s.lists live ∙ sym (opens stand p j es s.live.files s s.lists live),
      r.tells ∙ ap told same ∙ sym s.tells,
    )
