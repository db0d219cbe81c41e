-- A restore gives the files of the nodes.
use Rattle.std.proofs.Common.{◌≡◌, ℕ, zero, suc, List, [], ◌∷◌, ◌++◌, map, Option, None, Some, Result, Ok, Err, codes, refl, sym, ap, ◌∙◌}
use Rattle.std.proofs.lemmas.List.{map-append}
use Rattle.std.proofs.lemmas.Grind.{flat_map-append}
use Rattle.std.specs.List.{flat_map}
use Rattle.keep_names.specs.declared.id.Id.{Id}
use Rattle.keep_repo.specs.Repository.{Repository}
use Rattle.keep_snap.specs.Snap.{SnapData}
use Rattle.keep_snap.specs.declared.snap.SnapError.{SnapError}
use Rattle.keep_tree.specs.Tree.{KindData, dir, file, other, NodeData}
use Rattle.keep_catalog.specs.Files.{snapshot_in}
use Rattle.keep_catalog.specs.declared.reach_error.ReachError.{ReachError}
use Rattle.keep_names.specs.BlobId.{tree_at}
use Rattle.keep_reach.specs.Reach.{most_levels}
use Rattle.keep_reach.specs.Snapshots.{refusal_from}
use Rattle.keep_read.specs.Contents.{ContentData, contents_at, contents_in, contents_of, nodes_in}
use Rattle.keep_read.specs.Contents as content
use Rattle.keep_read.specs.Restored.{restored, restored_of}
use Rattle.keep_read.specs.Restored as restoring
use Rattle.keep_read.specs.declared.restore_error.RestoreError.{RestoreError}
use Rattle.keep_nodes.proofs.Whole.{whole_had}
use Rattle.keep_nodes.specs.Entries.{EntryData, at, entries_at, entries_in, entries_of, under}
use Rattle.keep_nodes.specs.Listed.{listed_by, listed_from, nodes_due, reached, root_by, root_due, tree_refusal, whole_nodes_due, whole_refusal}
use Rattle.keep_nodes.specs.Agreed.{content_at, content_of, restored_by}

flat_map-flat_map : {A B C : Type 0} (g : B → List C) (f : A → List B) (xs : List A) → flat_map g (flat_map f xs) ≡ flat_map (λ x. flat_map g (f x)) xs
flat_map-flat_map g f [] = refl
flat_map-flat_map g f (x ∷ xs) = flat_map-append g (f x) (flat_map f xs) ∙ ap (λ ys. flat_map g (f x) ++ ys) (flat_map-flat_map g f xs)

flat_map-same : {A B : Type 0} (f g : A → List B) → ((x : A) → f x ≡ g x) → (xs : List A) → flat_map f xs ≡ flat_map g xs
flat_map-same f g same [] = refl
flat_map-same f g same (x ∷ xs) = ap (λ ys. ys ++ flat_map f xs) (same x) ∙ ap (λ ys. g x ++ ys) (flat_map-same f g same xs)

module _ (r : Repository) where
  -- a path in front of a node is one in front of its content
  front_at : (front path : List ℕ) (kind : KindData) → content_at r (front ++ path) kind ≡ map (content.under front) (content_at r path kind)
  front_at front path (dir subtree) = refl
  front_at front path (file ids) = refl
  front_at front path (other type_name) = refl

  under_front : (front : List ℕ) (es : List EntryData) → flat_map (content_of r) (map (under front) es) ≡ map (content.under front) (flat_map (content_of r) es)
  under_front front [] = refl
  under_front front (e ∷ es) =
      ap (λ cs. cs ++ flat_map (content_of r) (map (under front) es)) (front_at front e.path e.node.kind)
      ∙ ap (λ cs. map (content.under front) (content_of r e) ++ cs) (under_front front es)
      ∙ sym (map-append (content.under front) (content_of r e) (flat_map (content_of r) es))

  -- a node and what is below it
  kind_listed : (n : ℕ) → ((tree : Id) → contents_at r n tree ≡ flat_map (content_of r) (entries_at r n tree)) → (kind : KindData) → contents_in r (contents_at r n) kind ≡ content_at r [] kind ++ flat_map (content_of r) (entries_in (entries_at r n) kind)
  kind_listed n below (dir subtree) = below subtree
  kind_listed n below (file ids) = refl
  kind_listed n below (other type_name) = refl

  node_listed : (n : ℕ) → ((tree : Id) → contents_at r n tree ≡ flat_map (content_of r) (entries_at r n tree)) → (node : NodeData) → contents_of r (contents_at r n) node ≡ flat_map (content_of r) (entries_of (entries_at r n) node)
  node_listed n below node =
      ap (map (content.under (codes "/" ++ node.name))) (kind_listed n below node.kind)
      ∙ sym (under_front (codes "/" ++ node.name) (at [] node ∷ entries_in (entries_at r n) node.kind))

  pub contents_listed : (levels : ℕ) (tree : Id) → contents_at r levels tree ≡ flat_map (content_of r) (entries_at r levels tree)
  contents_listed zero tree = refl
  contents_listed (suc n) tree =
      flat_map-same (contents_of r (contents_at r n)) (λ node. flat_map (content_of r) (entries_of (entries_at r n) node)) (node_listed n (λ t. contents_listed n t)) (nodes_in r tree)
      ∙ sym (flat_map-flat_map (content_of r) (entries_of (entries_at r n)) (nodes_in r tree))

  -- ---- a snapshot

  from_listed : (tree : Id) (o : Option ReachError) → restoring.restored_from r tree o ≡ restored_by r (reached (listed_from r tree o))
  from_listed tree None = ap (λ cs. Ok (restored_of cs)) (contents_listed most_levels tree)
  from_listed tree (Some why) = refl

  by_listed : (snapshot : Id) (o : Option (Result SnapData SnapError)) → restoring.restored_by r snapshot o ≡ restored_by r (listed_by r (whole_refusal r) (root_by snapshot o))
  by_listed snapshot None = refl
  by_listed snapshot (Some (Err why)) = refl
  by_listed snapshot (Some (Ok snap)) = from_listed snap.tree (refusal_from r (tree_at snap.tree))

  pub restored_listed : (snapshot : Id) → restored r snapshot ≡ restored_by r (whole_nodes_due r snapshot)
  unfolding root_due
  restored_listed snapshot = by_listed snapshot (snapshot_in r snapshot)

  tree_listed : (tree : Id) (entries : List EntryData) (o : Option ReachError) → whole_refusal r tree ≡ o → reached (listed_from r tree o) ≡ Ok entries → reached (listed_from r tree (tree_refusal r tree)) ≡ Ok entries
  tree_listed tree entries None none h = ap (λ o. reached (listed_from r tree o)) (whole_had r most_levels tree none) ∙ h
  tree_listed tree entries (Some why) some h = cc h

  root_listed : (entries : List EntryData) (root : Result Id RestoreError) → listed_by r (whole_refusal r) root ≡ Ok entries → listed_by r (tree_refusal r) root ≡ Ok entries
  root_listed entries (Ok tree) h = tree_listed tree entries (whole_refusal r tree) refl h
  root_listed entries (Err why) h = cc h

  pub whole_listed : (snapshot : Id) (entries : List EntryData) → whole_nodes_due r snapshot ≡ Ok entries → nodes_due r snapshot ≡ Ok entries
  whole_listed snapshot entries h = root_listed entries (root_due r snapshot) h
