use Rattle.std.proofs.Common.{◌≡◌, ℕ, [], ◌++◌, None, map, sym, ap, subst, ◌∙◌}
use Rattle.keep_names.specs.BlobId.{tree_at}
use Rattle.keep_catalog.specs.Naming.{named_by}
use Rattle.keep_reach.specs.Reach.{refusal_at}
use Rattle.keep_read.specs.Contents.{content_view, contents_at, under}
use Rattle.keep_read.specs.Found.{IsFound}
use Rattle.keep_read.proofs.Walking.{none_bare, under-nothing}
use Rattle.keep_read.proofs.content_walk.contents_of.Goals as goal

pub add_tree-requires : goal.add_tree-requires
add_tree-requires c =
    let r = c.args.catalog.now in
    let F : ℕ → Type 0 = λ n. IsFound r c.args.reached.now n (tree_at c.args.tree) in
    let H : ℕ → Type 0 = λ n. refusal_at (named_by r) n (tree_at c.args.tree) ≡ None in
    let same = sym c.levels.ensures.value in
    record {
      found = subst F same c.requires.found;
      had = subst H same c.requires.had;
      before = none_bare r c.new-2.result c.new-2.ensures.empty;
    }

pub returns : goal.returns
returns c =
    let below = contents_at c.args.catalog.now c.levels.result c.args.tree in
    c.in_ok-add_tree.ensures.contents
    ∙ ap (λ cs. map content_view cs ++ map (under []) below) c.new.ensures.items
    ∙ under-nothing below
    ∙ ap (λ n. contents_at c.args.catalog.now n c.args.tree) c.levels.ensures.value
