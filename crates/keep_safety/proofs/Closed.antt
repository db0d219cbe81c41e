-- The trees of a walk name blobs of the walk alone.
use Rattle.std.proofs.Common.{◌≡◌, ◌⊎◌, inl, inr, ℕ, Bool, true, false, ◌||◌, cond, List, [], ◌∷◌, ◌++◌, map, Some, option_map, is_some, IsSome, Ok, refl, sym, ap, subst, ◌∙◌, length}
use Rattle.std.proofs.lemmas.Bool.{or_left, or_right}
use Rattle.std.proofs.lemmas.List.Folds.{list_any-append}
use Rattle.std.specs.List.{AllByRecursion, find, flat_map, list_any}
use Rattle.std.specs.Simd.{first_chunks}
use Rattle.std.specs.Slice.Iter.{chunk_count}
use Rattle.serde_json.specs.Written.{compact_text}
use Rattle.keep_names.specs.BlobId.{piece_of, tree_at}
use Rattle.keep_names.specs.Laws.{TellsApart}
use Rattle.keep_names.specs.Orders.{blob_cmp}
use Rattle.keep_names.specs.declared.blob.BlobId.{BlobId}
use Rattle.keep_names.specs.declared.blob.BlobType.TheVariants.{Content, Tree}
use Rattle.keep_tree.specs.Shape.{IsTree}
use Rattle.keep_tree.specs.Tree as tree_reading
use Rattle.keep_tree.specs.Tree.{NodeData}
use Rattle.keep_tree.specs.Written.{tree_data}
use Rattle.keep_catalog.specs.Naming.{named_of, read_tree_of}
use Rattle.keep_catalog.specs.Orders.{blob_eq}
use Rattle.keep_reach.specs.Reach.{HasBlob}
use Rattle.keep_sound.specs.Plans.{IsClosed}
use Rattle.keep_build.specs.Blobs.{BlobData, blob_id_of, id_of, tree_blob}
use Rattle.keep_backup.specs.Folders.{Folder, file_node, folder_node, no_nodes}
use Rattle.keep_safety.specs.SafeBackup.{texts_of}
use Rattle.keep_backup.specs.Walk.{blobs_below, blobs_of, nodes_of, pieces_of, root_tree}
use Rattle.keep_safety.proofs.Positions.{both_so}
use Rattle.keep_safety.proofs.WalkTrees.{AreTrees, AreTreesBelow}

-- ---- the blobs of a list by their names

abbrev pub is_it : BlobId → BlobData → Bool
is_it name b = blob_eq name (blob_id_of b)

-- there is a text of the name just where a blob has it
pub texts_some : (name : BlobId) (bs : List BlobData) → is_some (texts_of bs name) ≡ list_any (is_it name) bs
texts_some name [] = refl
texts_some name (b ∷ bs) = cases (is_it name b) (texts_some name bs) where
  cases : (t : Bool) → is_some (texts_of bs name) ≡ list_any (is_it name) bs
      → is_some (option_map (λ (x : BlobData). x.1) (cond t (Some b) (find (is_it name) bs))) ≡ (t || list_any (is_it name) bs)
  cases true later = refl
  cases false later = later

-- a blob of the name, of which something holds, and its bytes
pub record HasText (P : BlobData → Type 0) (name : BlobId) (text : List ℕ) : Type 0 where
  pub blob : BlobData
  pub so : P blob
  pub is : is_it name blob ≡ true
  pub text_is : blob.1 ≡ text

text_found : (P : BlobData → Type 0) (name : BlobId) (text : List ℕ) (bs : List BlobData) → AllByRecursion P bs → texts_of bs name ≡ Some text → HasText P name text
text_found P name text [] all h = cc h
text_found P name text (b ∷ bs) all h = cases (is_it name b) refl (text_found P name text bs all.1) h where
  cases : (t : Bool) → is_it name b ≡ t → (texts_of bs name ≡ Some text → HasText P name text)
      → option_map (λ (x : BlobData). x.1) (cond t (Some b) (find (is_it name) bs)) ≡ Some text → HasText P name text
  cases true same later here = record { blob = b; so = all.0; is = same; text_is = cc here }
  cases false other later there = later there

-- ---- what stands in two lists

in_either : (xs ys : List BlobId) (blob : BlobId) → HasBlob (xs ++ ys) blob → HasBlob xs blob ⊎ HasBlob ys blob
in_either [] ys blob has = inr has
in_either (x ∷ xs) ys blob (inl same) = inl (inl same)
in_either (x ∷ xs) ys blob (inr later) = cases (in_either xs ys blob later) where
  cases : HasBlob xs blob ⊎ HasBlob ys blob → HasBlob (x ∷ xs) blob ⊎ HasBlob ys blob
  cases (inl here) = inl (inr here)
  cases (inr there) = inr there

-- ---- the blobs of a walk

-- a tree is named as one
tree_name : (nodes : List NodeData) → tree_at (id_of (tree_blob nodes)) ≡ blob_id_of (tree_blob nodes)
unfolding tree_blob
tree_name nodes = refl

-- bytes that are read as the nodes that were written
module _ (nodes : List NodeData) (read : tree_reading.tree_of (compact_text (tree_data nodes)) ≡ Ok nodes) where
  tree_read : read_tree_of (tree_blob nodes).1 ≡ Ok nodes
  unfolding read_tree_of tree_blob
  tree_read = read

module _ (tells : TellsApart blob_cmp) (all : List BlobData) where
  abbrev Has : BlobId → Type 0
  Has name = list_any (is_it name) all ≡ true

  -- all that the nodes name is among the blobs
  abbrev Holds : List NodeData → Type 0
  Holds nodes = (blob : BlobId) → HasBlob (flat_map named_of nodes) blob → Has blob

  abbrev AreAmong : List BlobData → Type 0
  AreAmong bs = (name : BlobId) → list_any (is_it name) bs ≡ true → Has name

  -- what is among the blobs in both lists is so in each
  first_among : (xs ys : List BlobData) → AreAmong (xs ++ ys) → AreAmong xs
  first_among xs ys among name has = among name (list_any-append (is_it name) xs ys ∙ or_left (list_any (is_it name) xs) (list_any (is_it name) ys) has)

  second_among : (xs ys : List BlobData) → AreAmong (xs ++ ys) → AreAmong ys
  second_among xs ys among name has = among name (list_any-append (is_it name) xs ys ∙ or_right (list_any (is_it name) xs) (list_any (is_it name) ys) has)

  is_first : (b : BlobData) (bs : List BlobData) (name : BlobId) → blob_id_of b ≡ name → list_any (is_it name) (b ∷ bs) ≡ true
  is_first b bs name same = or_left (is_it name b) (list_any (is_it name) bs) ((tells name (blob_id_of b)).1 (sym same))

  -- a tree of the walk names blobs of the walk alone
  abbrev IsFine : BlobData → Type 0
  IsFine b = b.0 ≡ Tree → (nodes : List NodeData) → read_tree_of b.1 ≡ Ok nodes → Holds nodes

  -- ---- pieces

  -- what a file names is a piece of it
  pieces_named : (parts : List (List ℕ)) (blob : BlobId) → HasBlob (map piece_of (map id_of (map (λ (piece : List ℕ). (Content, piece)) parts))) blob
      → list_any (is_it blob) (map (λ (piece : List ℕ). (Content, piece)) parts) ≡ true
  pieces_named [] blob has = absurd has
  pieces_named (p ∷ ps) blob (inl same) = is_first (Content, p) (map (λ (piece : List ℕ). (Content, piece)) ps) blob same
  pieces_named (p ∷ ps) blob (inr later) =
      or_right (is_it blob (Content, p)) (list_any (is_it blob) (map (λ (piece : List ℕ). (Content, piece)) ps)) (pieces_named ps blob later)

  -- a piece is no tree
  each_piece_fine : (parts : List (List ℕ)) → AllByRecursion IsFine (map (λ (piece : List ℕ). (Content, piece)) parts)
  each_piece_fine [] = tt
  each_piece_fine (p ∷ ps) = (λ is_tree nodes read. never is_tree, each_piece_fine ps) where
    never : {X : Type 0} → Content ≡ Tree → X
    never e = cc e

  pieces_have : (cut : ℕ) (bytes : List ℕ) (blob : BlobId) → HasBlob (map piece_of (map id_of (pieces_of cut bytes))) blob → list_any (is_it blob) (pieces_of cut bytes) ≡ true
  unfolding pieces_of
  pieces_have cut bytes blob has = pieces_named (first_chunks cut (chunk_count (length bytes) cut) bytes) blob has

  pieces_fine : (cut : ℕ) (bytes : List ℕ) → AllByRecursion IsFine (pieces_of cut bytes)
  unfolding pieces_of
  pieces_fine cut bytes = each_piece_fine (first_chunks cut (chunk_count (length bytes) cut) bytes)

  -- ---- folders

  module _ (cut : ℕ) where
    -- the nodes of a folder name blobs below it
    nodes_hold : (folder : Folder) → AreAmong (blobs_below cut folder) → Holds (nodes_of cut folder)
    nodes_hold no_nodes among blob has = absurd has
    nodes_hold (file_node name bytes more) among blob has =
        cases (nodes_hold more (second_among (pieces_of cut bytes) (blobs_below cut more) among))
        (in_either (map piece_of (map id_of (pieces_of cut bytes))) (flat_map named_of (nodes_of cut more)) blob has) where
          cases : Holds (nodes_of cut more) → HasBlob (map piece_of (map id_of (pieces_of cut bytes))) blob ⊎ HasBlob (flat_map named_of (nodes_of cut more)) blob → Has blob
          cases later (inl here) = first_among (pieces_of cut bytes) (blobs_below cut more) among blob (pieces_have cut bytes blob here)
          cases later (inr there) = later blob there
    nodes_hold (folder_node name inner more) among blob (inl same) =
        let tree = tree_blob (nodes_of cut inner) in
        second_among (blobs_below cut inner) (tree ∷ [])
        (first_among (blobs_below cut inner ++ tree ∷ []) (blobs_below cut more) among)
        blob (is_first tree [] blob (sym (tree_name (nodes_of cut inner)) ∙ same))
    nodes_hold (folder_node name inner more) among blob (inr there) =
        nodes_hold more (second_among (blobs_below cut inner ++ tree_blob (nodes_of cut inner) ∷ []) (blobs_below cut more) among) blob there

    module _ (reads : (nodes : List NodeData) → IsTree nodes → tree_reading.tree_of (compact_text (tree_data nodes)) ≡ Ok nodes) where
      -- so its tree is fine, and all below it
      tree_fine : (folder : Folder) → IsTree (nodes_of cut folder) → AreAmong (blobs_below cut folder) → IsFine (tree_blob (nodes_of cut folder))
      tree_fine folder is_tree among _ nodes read =
          let both : Ok (nodes_of cut folder) ≡ Ok nodes = sym (tree_read (nodes_of cut folder) (reads (nodes_of cut folder) is_tree)) ∙ read in
          let same : nodes_of cut folder ≡ nodes = cc both in
          subst Holds same (nodes_hold folder among)

      each_fine : (folder : Folder) → AreTreesBelow cut folder → AreAmong (blobs_below cut folder) → AllByRecursion IsFine (blobs_below cut folder)
      each_fine no_nodes trees among = tt
      each_fine (file_node name bytes more) trees among =
          both_so IsFine (pieces_of cut bytes) (blobs_below cut more) (pieces_fine cut bytes)
          (each_fine more trees (second_among (pieces_of cut bytes) (blobs_below cut more) among))
      each_fine (folder_node name inner more) trees among =
          let tree = tree_blob (nodes_of cut inner) in
          let front = blobs_below cut inner ++ tree ∷ [] in
          let inside : AreAmong (blobs_below cut inner) = first_among (blobs_below cut inner) (tree ∷ []) (first_among front (blobs_below cut more) among) in
          both_so IsFine front (blobs_below cut more)
          (both_so IsFine (blobs_below cut inner) (tree ∷ []) (each_fine inner trees.1 inside) (tree_fine inner trees.0 inside, tt))
          (each_fine more trees.2 (second_among front (blobs_below cut more) among))

-- ---- the whole walk

module _ (tells : TellsApart blob_cmp) (reads : (nodes : List NodeData) → IsTree nodes → tree_reading.tree_of (compact_text (tree_data nodes)) ≡ Ok nodes) (cut : ℕ) (folder : Folder) where
  pub walk_closed : AreTrees cut folder → IsClosed (texts_of (blobs_of cut folder))
  walk_closed trees tree blob text nodes is_tree text_is read has =
      closed (text_found (IsFine tells (blobs_of cut folder)) tree text (blobs_of cut folder) fine text_is) where
        below : AreAmong tells (blobs_of cut folder) (blobs_below cut folder)
        below = first_among tells (blobs_of cut folder) (blobs_below cut folder) (root_tree cut folder ∷ []) (λ name is. is)

        fine : AllByRecursion (IsFine tells (blobs_of cut folder)) (blobs_of cut folder)
        fine =
            both_so (IsFine tells (blobs_of cut folder)) (blobs_below cut folder) (root_tree cut folder ∷ [])
            (each_fine tells (blobs_of cut folder) cut reads folder trees.below below)
            (tree_fine tells (blobs_of cut folder) cut reads folder trees.own below, tt)

        closed : HasText (IsFine tells (blobs_of cut folder)) tree text → IsSome (texts_of (blobs_of cut folder) blob)
        closed found =
            let name_is : tree ≡ blob_id_of found.blob = (tells tree (blob_id_of found.blob)).0 found.is in
            let type_is : found.blob.0 ≡ Tree = sym (ap (λ (n : BlobId). n.blob_type) name_is) ∙ is_tree in
            texts_some blob (blobs_of cut folder)
            ∙ found.so type_is nodes (ap read_tree_of found.text_is ∙ read) blob has

  -- the root's tree is one of its blobs
  pub root_there : IsSome (texts_of (blobs_of cut folder) (tree_at (id_of (root_tree cut folder))))
  root_there =
      let name : BlobId = tree_at (id_of (root_tree cut folder)) in
      texts_some name (blobs_of cut folder)
      ∙ list_any-append (is_it name) (blobs_below cut folder) (root_tree cut folder ∷ [])
      ∙ or_right (list_any (is_it name) (blobs_below cut folder)) (list_any (is_it name) (root_tree cut folder ∷ []))
      (is_first tells (blobs_of cut folder) (root_tree cut folder) [] name (sym (tree_name (nodes_of cut folder))))
