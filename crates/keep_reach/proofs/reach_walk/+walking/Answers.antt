use Rattle.std.proofs.Common.{◌≡◌, ℕ, suc, ◌+◌, ◌<◌, take, get_or, Some, Ok, refl, sym, ap, subst, ◌∙◌, arith, rules}
use Rattle.std.proofs.lemmas.Result.{err_from_is_err_and}
use Rattle.std.specs.BTreeMap as tree
use Rattle.keep_names.specs.Orders.{blob_cmp}
use Rattle.keep_catalog.specs.Naming.{named_by}
use Rattle.keep_catalog.specs.Places.{chosen_listing}
use Rattle.keep_reach.specs.Reach.{refusal_at}
use Rattle.keep_reach.specs.Walk.{HasHeight}
use Rattle.keep_catalog.proofs.Growing.{no_blob}
use Rattle.keep_reach.proofs.Heights.{first_refused, fits, is_deep, piece_height, refused_below, tree_height}
use Rattle.keep_catalog.proofs.Naming.{pieces_name_nothing}
use Rattle.keep_reach.proofs.Walking.{HasWalked, names_known, nothing_named, one_walked, piece_grew, put_walked, same_walked, tree_grew}
use Rattle.keep_reach.proofs.reach_walk.+walking.Goals as goal

pub walk-returns-then-found-levels-clause-refused : goal.walk-returns-then-found-levels-clause-refused
walk-returns-then-found-levels-clause-refused t c _ =
    let got : tree.get blob_cmp c.args.walked.now c.args.blob ≡ Some c.in-Some.found = search rules in
    (c.requires.before.heights c.args.blob c.in-Some.found got).exact c.args.levels
    ∙ is_deep c.in-Some.found.height c.args.levels c.if-found-levels.true

pub walk-returns-in_err-below-in-Tree-clause-refused : goal.walk-returns-in_err-below-in-Tree-clause-refused
walk-returns-in_err-below-in-Tree-clause-refused t c =
    let due = err_from_is_err_and c.from_residual-in_err-below-in-Tree.result c.from_residual-in_err-below-in-Tree.ensures.1 in
    let lt : 0 < c.args.levels = omega arith in
    rw (due.1, due.2) (λ other.
    refused_below (named_by c.args.catalog.now) c.args.levels c.args.blob c.deref.result.now _ lt (c.in_ok-named-in-Tree.ensures.names ∙ ap Ok (sym c.deref.ensures.value)) (c.in_err-below-in-Tree.ensures.refused other))

pub walk-returns-in_ok-insert-in-Content-clause-height : goal.walk-returns-in_ok-insert-in-Content-clause-height
walk-returns-in_ok-insert-in-Content-clause-height t c =
    piece_height (named_by c.args.catalog.now) c.args.blob c.in-Content.is
    (pieces_name_nothing c.args.catalog.now c.args.blob _ c.in-Content.is c.in_ok-named-in-Content.ensures.names)

pub walk-returns-in_err-insert-in-Content-clause-after : goal.walk-returns-in_err-insert-in-Content-clause-after
walk-returns-in_err-insert-in-Content-clause-after t c =
    same_walked (named_by c.args.catalog.now) (chosen_listing c.args.catalog.now) c.args.walked.now c.insert.new.self c.in_err-insert-in-Content.ensures.err c.requires.before

pub walk-returns-in_ok-insert-in-Content-clause-after : goal.walk-returns-in_ok-insert-in-Content-clause-after
walk-returns-in_ok-insert-in-Content-clause-after t c =
    let named = named_by c.args.catalog.now in
    let chosen = chosen_listing c.args.catalog.now in
    let none = pieces_name_nothing c.args.catalog.now c.args.blob _ c.in-Content.is c.in_ok-named-in-Content.ensures.names in
    put_walked c.args.walked.now c.insert.new.self c.args.blob _ c.in_ok-insert-in-Content.ensures.updates.0 named chosen c.requires.before (piece_height named c.args.blob c.in-Content.is none) c.in_ok-named-in-Content.ensures.chosen
    (λ b names. absurd (nothing_named named chosen c.args.blob none b names)) c.in_ok-insert-in-Content.ensures.ordered

pub walk-returns-in_ok-insert-in-Content-clause-grew : goal.walk-returns-in_ok-insert-in-Content-clause-grew
walk-returns-in_ok-insert-in-Content-clause-grew t c =
    piece_grew c.args.walked.now c.insert.new.self c.args.blob _ c.in_ok-insert-in-Content.ensures.updates.0 (named_by c.args.catalog.now) c.args.levels c.in-Content.is

pub walk-returns-in_err-insert-in-Tree-clause-after : goal.walk-returns-in_err-insert-in-Tree-clause-after
walk-returns-in_err-insert-in-Tree-clause-after t c =
    same_walked (named_by c.args.catalog.now) (chosen_listing c.args.catalog.now) c.walk_all.new.walked c.insert-in-Tree.new.self c.in_err-insert-in-Tree.ensures.err c.in_ok-below-in-Tree.ensures.after

pub walk-returns-in_ok-insert-in-Tree-clause-height : goal.walk-returns-in_ok-insert-in-Tree-clause-height
walk-returns-in_ok-insert-in-Tree-clause-height t c =
    let named = named_by c.args.catalog.now in
    let below = c.in_ok-below-in-Tree.below in
    let is = c.in_ok-named-in-Tree.ensures.names ∙ ap Ok (sym c.deref.ensures.value) in
    let e : suc below ≡ below + 1 = omega arith in
    subst (HasHeight named c.args.blob) e (tree_height named c.args.blob c.deref.result.now below c.in-Tree.is is c.in_ok-below-in-Tree.ensures.height)

pub walk-returns-in_ok-insert-in-Tree-clause-after : goal.walk-returns-in_ok-insert-in-Tree-clause-after
walk-returns-in_ok-insert-in-Tree-clause-after t c =
    let named = named_by c.args.catalog.now in
    let chosen = chosen_listing c.args.catalog.now in
    let below = c.in_ok-below-in-Tree.below in
    let is = c.in_ok-named-in-Tree.ensures.names ∙ ap Ok (sym c.deref.ensures.value) in
    let e : suc below ≡ below + 1 = omega arith in
    let has : HasHeight named c.args.blob (below + 1) = subst (HasHeight named c.args.blob) e (tree_height named c.args.blob c.deref.result.now below c.in-Tree.is is c.in_ok-below-in-Tree.ensures.height) in
    put_walked c.walk_all.new.walked c.insert-in-Tree.new.self c.args.blob _ c.in_ok-insert-in-Tree.ensures.updates.0 named chosen c.in_ok-below-in-Tree.ensures.after has c.in_ok-named-in-Tree.ensures.chosen
    (names_known named chosen c.args.blob c.deref.result.now c.walk_all.new.walked is c.in_ok-below-in-Tree.ensures.known) c.in_ok-insert-in-Tree.ensures.ordered

pub walk-returns-in_ok-insert-in-Tree-clause-grew : goal.walk-returns-in_ok-insert-in-Tree-clause-grew
walk-returns-in_ok-insert-in-Tree-clause-grew t c =
    let lt : 0 < c.args.levels = omega arith in
    tree_grew c.walk_all.new.walked c.insert-in-Tree.new.self c.args.blob _ c.in_ok-insert-in-Tree.ensures.updates.0 (named_by c.args.catalog.now) c.args.walked.now c.args.levels c.deref.result.now lt
    (c.in_ok-named-in-Tree.ensures.names ∙ ap Ok (sym c.deref.ensures.value)) c.in_ok-below-in-Tree.ensures.grew

pub walk_all-returns-in_err-height-clause-refused : goal.walk_all-returns-in_err-height-clause-refused
walk_all-returns-in_err-height-clause-refused t c =
    let due = err_from_is_err_and c.from_residual.result c.from_residual.ensures.1 in
    let i = c.loop-blob.blob-index in
    rw (due.1, due.2) (λ other.
    first_refused (refusal_at (named_by c.args.catalog.now) c.args.levels) c.args.blobs.now i (get_or c.args.blobs.now i no_blob) no_blob _ c.loop-blob-test.true refl
    (c.loop-blob.invariant.height.exact c.args.levels ∙ fits c.loop-blob.highest c.args.levels c.loop-blob.invariant.within) (c.in_err-height.ensures.refused other))

pub walk_all-loop-blob-preserved : goal.walk_all-loop-blob-preserved
walk_all-loop-blob-preserved t c =
    let named = named_by c.args.catalog.now in
    let i = c.loop-blob.blob-index in
    let H : ℕ → Type 0 = λ n. HasWalked named (chosen_listing c.args.catalog.now) c.args.levels (take (i + 1) c.args.blobs.now) n c.args.walked.now c.walk.new.walked in
    subst H (sym c.max-highest.ensures)
    (one_walked named (chosen_listing c.args.catalog.now) c.args.levels c.args.blobs.now i (get_or c.args.blobs.now i no_blob) no_blob c.loop-blob.highest c.in_ok-height.height c.args.walked.now c.loop-blob.walked c.walk.new.walked c.loop-blob-test.true refl c.loop-blob.invariant c.in_ok-height.ensures.height c.in_ok-height.ensures.within c.in_ok-height.ensures.known c.in_ok-height.ensures.after c.in_ok-height.ensures.grew)
