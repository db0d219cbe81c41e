use Rattle.std.proofs.Common.{◌≡◌, ◌-◌, ◌<◌, List, ◌∷◌, ◌++◌, length, map, None, sym, ap, subst, ◌∙◌, arith}
use Rattle.std.proofs.lemmas.List.{append-nil}
use Rattle.std.proofs.lemmas.Result.{on_ok_weaker}
use Rattle.std.proofs.lemmas.List.Folds.{flat_map-map}
use Rattle.std.specs.List.{flat_map}
use Rattle.keep_names.specs.BlobId.{piece_of}
use Rattle.keep_catalog.specs.Naming.{named_by, named_in, named_of}
use Rattle.keep_reach.specs.Reach.{first_of, refusal_at}
use Rattle.keep_names.specs.declared.blob.BlobId.{BlobId}
use Rattle.keep_names.specs.declared.id.Id.{Id}
use Rattle.keep_tree.specs.Tree.{kind_view, node_view}
use Rattle.keep_tree.specs.declared.node.Node.{Node}
use Rattle.keep_tree.specs.declared.node.NodeKind.{NodeKind}
use Rattle.keep_read.specs.Contents.{content_view}
use Rattle.keep_read.specs.Found.{AreBare, AreFound, ArePlaced}
use Rattle.keep_read.specs.declared.content_walk.Walked.{Walked}
use Rattle.keep_read.proofs.Below.{below_found, below_had, has_level, in_flat, none_refused, pieces_placed}
use Rattle.keep_read.proofs.Walking.{all_added, folder_adds, node_adds, nothing_added, one_added, one_bare}
use Rattle.keep_read.proofs.content_walk.Walk.+walking.Goals as goal
use Rattle.keep_read.proofs.content_walk.Walk.+walking.Goals.{add_tree-then-len-before+in_ok-insert, add_tree-else-len-before}

pub add_tree-loop-node-init : goal.add_tree-loop-node-init
add_tree-loop-node-init t c = record { contents = sym (append-nil _); bare = c.requires.1.1.1.1 }

pub add_tree-add_node-requires : goal.add_tree-add_node-requires
add_tree-add_node-requires t c =
    let r = c.args.self.now.catalog.now in
    let levels = c.args.levels in
    let tree = c.args.tree in
    let nodes = c.deref-node-items.result.now in
    let some : 0 < levels = has_level (named_by r) levels tree c.requires.1.1.1.0 in
    let f : Node → List BlobId = λ node. named_of (node_view node) in
    let same = flat_map-map named_of node_view nodes in
    let read = ap (map node_view) c.deref-node-items.ensures.value ∙ c.in_ok-nodes.ensures in
    let lists = ap (flat_map named_of) (sym read) ∙ same in
    let F : List BlobId → Type 0 = λ bs. AreFound r c.args.self.now.reached.now (levels - 1) bs in
    let found : AreFound r c.args.self.now.reached.now (levels - 1) (flat_map f nodes) = subst F lists (below_found r c.args.self.now.reached.now levels tree c.requires.1.1.1.0 c.requires.1.1.0) in
    let H : List BlobId → Type 0 = λ bs. first_of (refusal_at (named_by r) (levels - 1)) bs ≡ None in
    let had = subst H lists (below_had r levels tree c.requires.1.1.1.0) in
    let i = c.loop-node.node-index in (
      omega (arith, some, c.requires.1.0),
      (
        record { each = λ top among. found.each top (in_flat f nodes i c.node-item.result c.node-item.result c.loop-node-test.true c.node-item.is top among) },
        (none_refused (refusal_at (named_by r) (levels - 1)) f nodes i c.node-item.result c.node-item.result c.loop-node-test.true c.node-item.is had, c.loop-node.invariant.bare),
      ),
    )

pub add_tree-loop-node-preserved : goal.add_tree-loop-node-preserved
add_tree-loop-node-preserved t c = record {
  contents = one_added (node_adds c.args.self.now.catalog.now (c.args.levels - 1) c.args.path.now) _ _ _ c.deref-node-items.result.now c.loop-node.node-index c.node-item.result c.node-item.result c.loop-node-test.true c.node-item.is c.loop-node.invariant.contents c.in_ok-add_node.ensures.contents;
  bare = c.in_ok-add_node.ensures.bare;
}

pub add_tree-returns-clause-contents : goal.add_tree-returns-clause-contents
add_tree-returns-clause-contents t c =
    let r = c.args.self.now.catalog.now in
    let nodes = c.deref-node-items.result.now in
    let read = ap (map node_view) c.deref-node-items.ensures.value ∙ c.in_ok-nodes.ensures in
    let all = all_added r c.args.levels c.args.tree c.args.path.now nodes c.loop-node.node-index _ _ (has_level (named_by r) c.args.levels c.args.tree c.requires.1.1.1.0) c.loop-node-test.false read c.loop-node.invariant.contents in
    elim c.if-len-before.branch [
      | add_tree-then-len-before+in_ok-insert w ↦ ap (λ (x : Walked). map content_view x.contents.items) w.walked-is ∙ all
      | add_tree-else-len-before w ↦ ap (λ (x : Walked). map content_view x.contents.items) w.walked-is ∙ all
    ]

pub add_tree-returns-clause-bare : goal.add_tree-returns-clause-bare
add_tree-returns-clause-bare t c =
    let r = c.args.self.now.catalog.now in
    let nodes = c.deref-node-items.result.now in
    let read = ap (map node_view) c.deref-node-items.ensures.value ∙ c.in_ok-nodes.ensures in
    let all = all_added r c.args.levels c.args.tree c.args.path.now nodes c.loop-node.node-index _ _ (has_level (named_by r) c.args.levels c.args.tree c.requires.1.1.1.0) c.loop-node-test.false read c.loop-node.invariant.contents in
    let B : Walked → Type 0 = λ x. AreBare r x.bare in
    elim c.if-len-before.branch [
      | add_tree-then-len-before+in_ok-insert w ↦
          let same : length c.loop-node.walked.contents.items ≡ length c.args.walked.now.contents.items = omega (arith, w.if-len-before.true, c.len.ensures, c.len-before.ensures, c.loop-node.walked.contents.ok.0, c.args.walked.now.contents.ok.0) in
          subst B (sym w.walked-is)
          (one_bare r c.loop-node.walked.bare w.insert.new.self c.args.tree w.in_ok-insert.ensures.updates.0 c.loop-node.invariant.bare
          (nothing_added r c.args.levels c.args.tree c.args.path.now c.args.walked.now.contents.items c.loop-node.walked.contents.items c.requires.1.1.1.0 same all))
      | add_tree-else-len-before w ↦ subst B (sym w.walked-is) c.loop-node.invariant.bare
    ]

pub add_node-joined-requires : goal.add_node-joined-requires
add_node-joined-requires t c =
    let r = c.args.self.now.catalog.now in
    let reached = c.args.self.now.reached.now in
    let F : NodeKind → Type 0 = λ kind. AreFound r reached c.args.levels (named_in (kind_view kind)) in
    let P : List Id → Type 0 = λ content. ArePlaced r reached (map piece_of content) in
    subst P (sym c.deref.ensures.value)
    (pieces_placed r reached c.args.levels c.in-File.content.items (subst F c.in-File.is c.requires.1.1.0))

pub add_node-returns-in-Dir-clause-contents : goal.add_node-returns-in-Dir-clause-contents
add_node-returns-in-Dir-clause-contents t c =
    let r = c.args.self.now.catalog.now in
    let node = node_view c.args.node.now in
    let at = c.as_str-in-Dir.ensures.value ∙ c.in_ok-path.ensures ∙ ap (λ name. c.args.path.now ++ 47 ∷ name) c.as_str.ensures.value in
    on_ok_weaker c.add_tree.result (λ is. is ∙ ap (λ xs. map content_view c.args.walked.now.contents.items ++ xs) (folder_adds r c.args.levels c.args.path.now _ node c.in-Dir.subtree (ap kind_view c.in-Dir.is) at)) c.add_tree.ensures.contents
