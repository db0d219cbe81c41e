use Rattle.std.proofs.Common.{◌≡◌, ◌≢◌, ℕ, ◌+◌, ◌-◌, ◌≤◌, List, [], ◌∷◌, ◌++◌, IfErr, IfOk, OnOk, true, false, length, map, take, sym, ap, subst, ◌∙◌, append-nil, arith, rules}
use Rattle.std.proofs.lemmas.List.{length-drop, map-append, take_rest}
use Rattle.std.proofs.lemmas.Result.{err_from_is_err_and, on_ok_weaker}
use Rattle.std.specs.List.{list_any}
use Rattle.serde_json.specs.Data.{no_members}
use Rattle.serde_json.specs.Written.{has_float}
use Rattle.keep_names.specs.declared.id.Id.{Id}
use Rattle.keep_reach.specs.Reach.{most_levels}
use Rattle.keep_tree.specs.Tree.{NodeData, dir, file, node_view}
use Rattle.keep_tree.specs.Written.{tree_data}
use Rattle.keep_build.specs.Blobs.{BlobData, id_of, is_full, tree_blob}
use Rattle.keep_backup.specs.Files.{seen}
use Rattle.keep_backup.specs.Folders.{folder_at}
use Rattle.keep_backup.specs.Walk.{Took, blobs_below, nodes_of, root_tree}
use Rattle.keep_plan.specs.declared.plan_error.PlanError.TheVariants.{Full, Memory}
use Rattle.keep_backup.specs.declared.paths.PathFile.{PathFile}
use Rattle.keep_backup.proofs.Offering.{all_taken, both_took, full_first, full_left, more_taken, refused_after}
use Rattle.keep_backup.proofs.Seen.{names_parts, order_parts}
use Rattle.keep_backup.proofs.Texts.{no_floats}
use Rattle.keep_backup.proofs.Turns.{file_first, folder_first, from_index, nodes_more, none_left, rest_names, rest_order, some_files, turn}
use Rattle.keep_backup.proofs.path_walk.+walking.Invariants.{below}
use Rattle.keep_backup.proofs.path_walk.+walking.Goals as goal

-- ---- a folder

pub walk_folder-count_at-count-requires-clause-names : goal.walk_folder-count_at-count-requires-clause-names
walk_folder-count_at-count-requires-clause-names t c =
    rest_names (most_levels - c.args.depth) c.args.depth c.loop-start.start c.args.files.now c.requires.names

pub walk_folder-walk_node-requires : goal.walk_folder-walk_node-requires
walk_folder-walk_node-requires t c =
    let n = c.count_at-count.result in
    let rest = from_index c.loop-start.start c.args.files.now in
    let order = (order_parts c.args.depth n rest (rest_order c.args.depth c.loop-start.start c.args.files.now c.requires.in_order)).0 in
    let names = (names_parts (most_levels - c.args.depth) c.args.depth n rest (rest_names (most_levels - c.args.depth) c.args.depth c.loop-start.start c.args.files.now c.requires.names)).0 in
    (search rules, (order, (names, (some_files n rest c.count_at-count.ensures.some c.count_at-count.ensures.within, c.count_at-count.ensures.one_name))))

pub walk_folder-returns-in_err-node-clause-refused : goal.walk_folder-returns-in_err-node-clause-refused
walk_folder-returns-in_err-node-clause-refused t c =
    let due = err_from_is_err_and c.from_residual.result c.from_residual.ensures.1 in
    let files = c.args.files.now in
    let levels = most_levels - c.args.depth in
    let n = c.count_at-count.result in
    let step = turn c.args.cut.bytes levels c.args.depth c.loop-start.start n files c.count_at-count.ensures.some c.count_at-count.ensures.within c.requires.in_order c.requires.names c.count_at-count.ensures.one_name c.count_at-count.ensures.other_name in
    let all = blobs_below c.args.cut.bytes (below c.args.depth 0 files) in
    let group = blobs_below c.args.cut.bytes (folder_at levels (seen c.args.depth (take n (from_index c.loop-start.start files)))) in
    let later = blobs_below c.args.cut.bytes (below c.args.depth (c.loop-start.start + n) files) in
    let left = blobs_below c.args.cut.bytes (below c.args.depth c.loop-start.start files) in
    rw (due.1, due.2) (λ other.
    let full = c.in_err-node.ensures.refused other in
    (full.0, full_first all (root_tree c.args.cut.bytes (below c.args.depth 0 files) ∷ []) (full_left all group later left c.args.storing.now c.loop-start.storing step.blobs c.loop-start.invariant.taken full.1)))

pub walk_folder-loop-start-preserved : goal.walk_folder-loop-start-preserved
walk_folder-loop-start-preserved t c =
    let files = c.args.files.now in
    let start = c.loop-start.start in
    let levels = most_levels - c.args.depth in
    let n = c.count_at-count.result in
    let step = turn c.args.cut.bytes levels c.args.depth start n files c.count_at-count.ensures.some c.count_at-count.ensures.within c.requires.in_order c.requires.names c.count_at-count.ensures.one_name c.count_at-count.ensures.other_name in
    let all = blobs_below c.args.cut.bytes (below c.args.depth 0 files) in
    let group = blobs_below c.args.cut.bytes (folder_at levels (seen c.args.depth (take n (from_index start files)))) in
    let later = blobs_below c.args.cut.bytes (below c.args.depth (start + n) files) in
    let left = blobs_below c.args.cut.bytes (below c.args.depth start files) in
    let within = c.count_at-count.ensures.within in
    let before = c.loop-start.invariant.within in
    let node = c.in_ok-node.node in
    record {
      within = omega (arith, within, before, ap length (take_rest files start), length-drop start files);
      nodes = nodes_more (nodes_of c.args.cut.bytes (below c.args.depth 0 files)) (map node_view c.loop-start.nodes.items) (node_view node ∷ []) (nodes_of c.args.cut.bytes (below c.args.depth (start + n) files)) (nodes_of c.args.cut.bytes (below c.args.depth start files)) (map node_view c.push.new.self.items) c.loop-start.invariant.nodes
          (step.nodes ∙ ap (λ ns. ns ++ nodes_of c.args.cut.bytes (below c.args.depth (start + n) files)) (sym c.in_ok-node.ensures.node))
          (ap (map node_view) c.in_ok-push.ensures.items ∙ map-append node_view c.loop-start.nodes.items (node ∷ []));
      taken = more_taken all group later left c.args.storing.now c.loop-start.storing c.walk_node.new.storing step.blobs c.loop-start.invariant.taken c.in_ok-node.ensures.took;
    }

-- at the end the nodes are those of the folder
all_nodes : (cut depth start : ℕ) (files : List PathFile) (nodes : List NodeData) → nodes ++ nodes_of cut (below depth start files) ≡ nodes_of cut (below depth 0 files) → length files ≤ start → nodes ≡ nodes_of cut (below depth 0 files)
all_nodes cut depth start files nodes so_far past =
    sym (append-nil nodes) ∙ ap (λ ns. nodes ++ ns) (sym (ap (nodes_of cut) (none_left (most_levels - depth) depth start files past))) ∙ so_far

pub walk_folder-put_tree-requires : goal.walk_folder-put_tree-requires
walk_folder-put_tree-requires t c =
    let same = all_nodes c.args.cut.bytes c.args.depth c.loop-start.start c.args.files.now (map node_view c.loop-start.nodes.items) c.loop-start.invariant.nodes c.loop-start-test.false in
    let F : List NodeData → Type 0 = λ ns. has_float (tree_data ns) ≡ false in
    subst F (sym same) (no_floats c.args.cut.bytes (below c.args.depth 0 c.args.files.now))

pub walk_folder-returns-clause-took : goal.walk_folder-returns-clause-took
walk_folder-returns-clause-took t c =
    let files = c.args.files.now in
    let folder = below c.args.depth 0 files in
    let same = all_nodes c.args.cut.bytes c.args.depth c.loop-start.start files (map node_view c.loop-start.nodes.items) c.loop-start.invariant.nodes c.loop-start-test.false in
    let done = all_taken (blobs_below c.args.cut.bytes folder) (blobs_below c.args.cut.bytes (below c.args.depth c.loop-start.start files)) c.args.storing.now c.loop-start.storing (ap (blobs_below c.args.cut.bytes) (none_left (most_levels - c.args.depth) c.args.depth c.loop-start.start files c.loop-start-test.false)) c.loop-start.invariant.taken in
    let T : List NodeData → Type 0 = λ ns. OnOk c.put_tree.result (Took (tree_blob ns ∷ []) c.loop-start.storing c.put_tree.new.storing) in
    on_ok_weaker c.put_tree.result (both_took (blobs_below c.args.cut.bytes folder) (root_tree c.args.cut.bytes folder ∷ []) c.args.storing.now c.loop-start.storing c.put_tree.new.storing done) (subst T same c.put_tree.ensures.took)

pub walk_folder-returns-clause-id : goal.walk_folder-returns-clause-id
walk_folder-returns-clause-id t c =
    let same = all_nodes c.args.cut.bytes c.args.depth c.loop-start.start c.args.files.now (map node_view c.loop-start.nodes.items) c.loop-start.invariant.nodes c.loop-start-test.false in
    let I : List NodeData → Type 0 = λ ns. IfOk c.put_tree.result (λ id. id ≡ id_of (tree_blob ns)) in
    subst I same c.put_tree.ensures.id

pub walk_folder-returns-clause-refused : goal.walk_folder-returns-clause-refused
walk_folder-returns-clause-refused t c =
    let folder = below c.args.depth 0 c.args.files.now in
    let same = all_nodes c.args.cut.bytes c.args.depth c.loop-start.start c.args.files.now (map node_view c.loop-start.nodes.items) c.loop-start.invariant.nodes c.loop-start-test.false in
    let R : List NodeData → Type 0 = λ ns. IfErr c.put_tree.result (λ error. error ≢ Memory → (error ≡ Full) × (list_any is_full (tree_blob ns ∷ []) ≡ true)) in
    refused_after c.put_tree.result (blobs_below c.args.cut.bytes folder) (root_tree c.args.cut.bytes folder ∷ []) (subst R same c.put_tree.ensures.refused)

-- ---- one node

pub walk_node-returns-in_err-content-clause-refused : goal.walk_node-returns-in_err-content-clause-refused
walk_node-returns-in_err-content-clause-refused t c =
    let due = err_from_is_err_and c.from_residual-in_err-content.result c.from_residual-in_err-content.ensures.1 in
    let files = c.args.files.now in
    let first = c.index-files-0.result in
    let comes = file_first c.args.cut.bytes (most_levels - c.args.depth) c.args.depth files first c.index.result.now c.requires.some c.requires.in_order c.requires.names c.requires.one_name c.index-files-0.is (sym c.len.ensures ∙ c.if-len-depth.true) c.index.ensures in
    rw (due.1, due.2) (λ other.
    let full = c.in_err-content.ensures.refused other in
    (full.0, ap (list_any is_full) comes.below ∙ full.1))

pub walk_node-returns-then-len-depth-clause-took : goal.walk_node-returns-then-len-depth-clause-took
walk_node-returns-then-len-depth-clause-took t c =
    let files = c.args.files.now in
    let first = c.index-files-0.result in
    let comes = file_first c.args.cut.bytes (most_levels - c.args.depth) c.args.depth files first c.index.result.now c.requires.some c.requires.in_order c.requires.names c.requires.one_name c.index-files-0.is (sym c.len.ensures ∙ c.if-len-depth.true) c.index.ensures in
    let T : List BlobData → Type 0 = λ bs. Took bs c.args.storing.now c.put_pieces.new.storing in
    subst T (sym comes.below) c.in_ok-content.ensures.took

pub walk_node-returns-then-len-depth-clause-node : goal.walk_node-returns-then-len-depth-clause-node
walk_node-returns-then-len-depth-clause-node t c =
    let files = c.args.files.now in
    let first = c.index-files-0.result in
    let comes = file_first c.args.cut.bytes (most_levels - c.args.depth) c.args.depth files first c.index.result.now c.requires.some c.requires.in_order c.requires.names c.requires.one_name c.index-files-0.is (sym c.len.ensures ∙ c.if-len-depth.true) c.index.ensures in
    ap (λ n. n ∷ []) (c.file.ensures ∙ as_file c.in_ok-name.ensures.ok c.in_ok-content.ensures.ids) ∙ sym comes.nodes
  where
    as_file : {x y : List ℕ} {is js : List Id} → x ≡ y → is ≡ js → ◌≡◌ {A = NodeData} (record { name = x; kind = file is; others = no_members }) (record { name = y; kind = file js; others = no_members })
    as_file e f = λ i. record { name = e i; kind = file (f i); others = no_members }

pub walk_node-walk_folder-requires : goal.walk_node-walk_folder-requires
walk_node-walk_folder-requires t c =
    let first = c.index-files-0.result in
    let folder = folder_first c.args.cut.bytes most_levels c.args.depth c.args.files.now first c.index.result.now c.requires.some c.requires.in_order c.requires.names c.requires.one_name c.index-files-0.is (λ e. c.if-len-depth.false (c.len.ensures ∙ e)) c.index.ensures in
    let deeper = folder.deeper in
    (search rules, (folder.order, folder.names))

pub walk_node-returns-in_err-subtree-clause-refused : goal.walk_node-returns-in_err-subtree-clause-refused
walk_node-returns-in_err-subtree-clause-refused t c =
    let due = err_from_is_err_and c.from_residual-in_err-subtree.result c.from_residual-in_err-subtree.ensures.1 in
    let first = c.index-files-0.result in
    let folder = folder_first c.args.cut.bytes most_levels c.args.depth c.args.files.now first c.index.result.now c.requires.some c.requires.in_order c.requires.names c.requires.one_name c.index-files-0.is (λ e. c.if-len-depth.false (c.len.ensures ∙ e)) c.index.ensures in
    rw (due.1, due.2) (λ other.
    let full = c.in_err-subtree.ensures.refused other in
    (full.0, ap (list_any is_full) (folder.comes).below ∙ full.1))

pub walk_node-returns-clause-took : goal.walk_node-returns-clause-took
walk_node-returns-clause-took t c =
    let first = c.index-files-0.result in
    let folder = folder_first c.args.cut.bytes most_levels c.args.depth c.args.files.now first c.index.result.now c.requires.some c.requires.in_order c.requires.names c.requires.one_name c.index-files-0.is (λ e. c.if-len-depth.false (c.len.ensures ∙ e)) c.index.ensures in
    let T : List BlobData → Type 0 = λ bs. Took bs c.args.storing.now c.walk_folder.new.storing in
    subst T (sym (folder.comes).below) c.in_ok-subtree.ensures.took

pub walk_node-returns-clause-node : goal.walk_node-returns-clause-node
walk_node-returns-clause-node t c =
    let first = c.index-files-0.result in
    let folder = folder_first c.args.cut.bytes most_levels c.args.depth c.args.files.now first c.index.result.now c.requires.some c.requires.in_order c.requires.names c.requires.one_name c.index-files-0.is (λ e. c.if-len-depth.false (c.len.ensures ∙ e)) c.index.ensures in
    ap (λ n. n ∷ []) (c.dir.ensures ∙ as_dir c.in_ok-name.ensures.ok c.in_ok-subtree.ensures.id) ∙ sym (folder.comes).nodes
  where
    as_dir : {x y : List ℕ} {i j : Id} → x ≡ y → i ≡ j → ◌≡◌ {A = NodeData} (record { name = x; kind = dir i; others = no_members }) (record { name = y; kind = dir j; others = no_members })
    as_dir e f = λ k. record { name = e k; kind = dir (f k); others = no_members }
