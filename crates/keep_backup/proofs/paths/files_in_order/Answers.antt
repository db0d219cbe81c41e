use Rattle.std.proofs.Common.{◌≡◌, List, Ordering, map, is_lt, nat_cmp, sym, ap, subst, ◌∙◌, rules}
use Rattle.std.proofs.lemmas.List.Sorted.{IsPermutation-map, answers_always, ranks_by}
use Rattle.std.proofs.lemmas.Result.{err_from_is_err_and}
use Rattle.std.specs.Cmp.Lexicographic.{slice_cmp}
use Rattle.std.specs.List.Sorted.{IsSortedBy}
use Rattle.keep_docs.proofs.Answered.{found_from_ok}
use Rattle.keep_backup.specs.Files.{file_view, given_view, names_view, paths_seen}
use Rattle.keep_backup.specs.Paths.{StandInOrder, any_clash, path_cmp}
use Rattle.keep_backup.specs.declared.paths.PathFile.{PathFile}
use Rattle.keep_backup.proofs.Arranged.{clash_refused, files_taken, named_permuted, path_order, path_refused}
use Rattle.keep_backup.proofs.Components.{cmp_texts}
use Rattle.keep_backup.proofs.paths.files_in_order.Goals as goal

-- what the closure answers is the order of the two paths
compared : (r : Ordering) (a b : PathFile) → r ≡ slice_cmp (λ x y. slice_cmp nat_cmp x.now y.now) a.names.items b.names.items → r ≡ path_cmp (names_view a.names) (names_view b.names)
compared r a b h = h ∙ cmp_texts a.names.items b.names.items

pub returns-in_err-files-clause-files : goal.returns-in_err-files-clause-files
returns-in_err-files-clause-files c =
    let due = err_from_is_err_and c.from_residual.result c.from_residual.ensures.1 in
    rw (due.1, due.2) (λ other. path_refused (map given_view c.args.given.now) _ (c.in_err-files.ensures other))

pub have_clash-requires : goal.have_clash-requires
have_clash-requires c =
    let S : List PathFile → Type 0 = λ fs. IsSortedBy (λ a b. is_lt (path_cmp (names_view a.names) (names_view b.names))) fs in
    record {
      sorted = subst S (sym c.deref.ensures.value)
          (c.in_ok-sort_by.ensures.sorted (λ a b. is_lt (path_cmp (names_view a.names) (names_view b.names))) (ranks_by path_order (λ (f : PathFile). names_view f.names)) (answers_always _ _ _ (λ f a r g h. ap is_lt (compared r a.0.now a.1.0.now (search rules)))));
    }

pub returns-then-have_clash-clause-files : goal.returns-then-have_clash-clause-files
returns-then-have_clash-clause-files c = λ _.
    let C : List PathFile → Type 0 = λ fs. c.have_clash.result ≡ any_clash (paths_seen 0 fs) in
    let clash = subst C c.deref.ensures.value c.have_clash.ensures.clash in
    clash_refused (map given_view c.args.given.now) (map file_view c.in_ok-files.files.items) (map file_view c.sort_by.new.self.items) (found_from_ok _ _ _ c.in_ok-files.ensures)
    (IsPermutation-map file_view c.in_ok-files.files.items c.sort_by.new.self.items c.sort_by.ensures.permutation) (sym clash ∙ c.if-have_clash.true)

pub returns-clause-files : goal.returns-clause-files
returns-clause-files c =
    let O : List PathFile → Type 0 = λ fs. StandInOrder (paths_seen 0 fs) in
    files_taken (map given_view c.args.given.now) (map file_view c.in_ok-files.files.items) (map file_view c.sort_by.new.self.items) (found_from_ok _ _ _ c.in_ok-files.ensures)
    (IsPermutation-map file_view c.in_ok-files.files.items c.sort_by.new.self.items c.sort_by.ensures.permutation) (subst O c.deref.ensures.value c.if-have_clash.ensures.in_order)

pub returns-clause-named : goal.returns-clause-named
returns-clause-named c =
    named_permuted (map given_view c.args.given.now) (map file_view c.in_ok-files.files.items) (map file_view c.sort_by.new.self.items) (found_from_ok _ _ _ c.in_ok-files.ensures)
    (IsPermutation-map file_view c.in_ok-files.files.items c.sort_by.new.self.items c.sort_by.ensures.permutation)
