use Rattle.std.proofs.Common.{◌≡◌, ℕ, [], ◌++◌, None, Ok, map, sym, ap, subst, ◌∙◌}
use Rattle.keep_names.specs.BlobId.{tree_at}
use Rattle.keep_reach.specs.Reach.{refusal_at}
use Rattle.keep_nodes.specs.Entries.{entries_at, entry_view, under}
use Rattle.keep_nodes.specs.Listed.{listed_from, tree_refusal, trees_by}
use Rattle.keep_nodes.proofs.Walking.{under-nothing}
use Rattle.keep_nodes.proofs.entry_walk.entries_below.Goals as goal

pub returns : goal.returns
returns c =
    let r = c.args.catalog.now in
    let below = entries_at r c.levels.result c.args.tree in
    let H : ℕ → Type 0 = λ n. refusal_at (trees_by r) n (tree_at c.args.tree) ≡ None in
    let had : tree_refusal r c.args.tree ≡ None = subst H c.levels.ensures.value c.in_ok-add_tree.ensures.had in
    ap (listed_from r c.args.tree) had
    ∙ ap Ok (sym (c.in_ok-add_tree.ensures.added ∙ ap (λ es. map entry_view es ++ map (under []) below) c.new-entries.ensures.items ∙ under-nothing below ∙ ap (λ n. entries_at r n c.args.tree) c.levels.ensures.value))
