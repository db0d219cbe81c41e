use Rattle.std.proofs.Common.{◌≡◌, ◌≢◌, ℕ, ◌-◌, ◌<◌, ◌≤◌, Bool, true, false, not, [], Some, List, get_or, slice_get, length, refl, sym, ap, subst, ◌∙◌, ⊎_elim, true≢false, arith}
use Rattle.std.proofs.lemmas.Bool.{cases_lt}
use Rattle.std.proofs.lemmas.Slice.Eq.{bytes_eq-Decides}
use Rattle.keep_reach.specs.Reach.{most_levels}
use Rattle.keep_backup.specs.Files.{names_view, paths_seen}
use Rattle.keep_backup.specs.declared.paths.PathFile.{PathFile}
use Rattle.keep_backup.proofs.Turns.{count_of, first_at, named_at, one_more, other_at}
use Rattle.keep_backup.proofs.path_walk.count_at.Goals as goal

same_some : (x y : List ℕ) → Some x ≡ Some y → x ≡ y
same_some x y e = cc

is_true : (b : Bool) → false ≡ not b → b ≡ true
is_true true h = refl
is_true false h = absurd (true≢false (sym h))

-- the first name of the file at this index isn't the first file's
differs : (c : goal.Then-ne) → slice_get (get_or (paths_seen c.args.depth c.args.files.now) c.loop-i.i []) 0 ≢ slice_get (get_or (paths_seen c.args.depth c.args.files.now) 0 []) 0
differs c = λ e.
    let files = c.args.files.now in
    let levels = most_levels - c.args.depth in
    let K : PathFile → Type 0 = λ f. c.index-in-loop-i.result.now ≡ get_or f.names.items c.args.depth c.index-in-loop-i.result.now in
    let here = first_at levels c.args.depth files c.loop-i.i [] c.index-files-i.result c.index-in-loop-i.result.now c.requires.names c.loop-i-test.true (subst K c.index-files-i.is c.index-in-loop-i.ensures) in
    let first = first_at levels c.args.depth files 0 [] c.index-files-0.result c.index.result.now c.requires.names c.requires.some c.index.ensures in
    let same = same_some c.index-in-loop-i.result.now.now c.index.result.now.now (sym here ∙ e ∙ first) in
    true≢false (sym c.if-ne.true ∙ c.ne.ensures ∙ ap not ((bytes_eq-Decides c.index-in-loop-i.result.now.now c.index.result.now.now).1 same))

behind : (c : goal.Then-ne) → 0 < c.loop-i.i
behind c =
    let here : 0 < c.loop-i.i → 0 < c.loop-i.i = λ h. h in
    let none : c.loop-i.i ≤ 0 → 0 < c.loop-i.i = λ h.
    let zero : c.loop-i.i ≡ 0 = omega arith in
    absurd (differs c (ap (λ n. slice_get (get_or (paths_seen c.args.depth c.args.files.now) n []) 0) zero))
    in
    ⊎_elim here none (cases_lt 0 c.loop-i.i)

pub index-requires-in-loop-i : goal.index-requires-in-loop-i
index-requires-in-loop-i c =
    let N : PathFile → Type 0 = λ f. c.args.depth < length (names_view f.names) in
    let within = subst N (sym c.index-files-i.is) (named_at (most_levels - c.args.depth) c.args.depth c.args.files.now c.loop-i.i c.index-files-i.result c.requires.names c.loop-i-test.true) in
    omega (arith, within, count_of c.index-files-i.result.names)

pub returns-then-ne-clause-some : goal.returns-then-ne-clause-some
returns-then-ne-clause-some c = behind c

pub returns-then-ne-clause-other_name : goal.returns-then-ne-clause-other_name
returns-then-ne-clause-other_name c =
    other_at c.args.depth c.loop-i.i c.args.files.now [] c.index-files-i.result (behind c) c.loop-i-test.true (differs c)

pub loop-i-preserved : goal.loop-i-preserved
loop-i-preserved c =
    let files = c.args.files.now in
    let levels = most_levels - c.args.depth in
    let K : PathFile → Type 0 = λ f. c.index-in-loop-i.result.now ≡ get_or f.names.items c.args.depth c.index-in-loop-i.result.now in
    let here = first_at levels c.args.depth files c.loop-i.i [] c.index-files-i.result c.index-in-loop-i.result.now c.requires.names c.loop-i-test.true (subst K c.index-files-i.is c.index-in-loop-i.ensures) in
    let first = first_at levels c.args.depth files 0 [] c.index-files-0.result c.index.result.now c.requires.names c.requires.some c.index.ensures in
    let same = (bytes_eq-Decides c.index-in-loop-i.result.now.now c.index.result.now.now).0 (is_true _ c.if-ne.ensures) in
    one_more c.args.depth c.loop-i.i files [] c.loop-i.invariant c.loop-i-test.true (here ∙ ap (λ n. Some n) same ∙ sym first)
