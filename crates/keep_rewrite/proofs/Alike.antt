-- What goes from a tree, and what is left of it, depends on its path only by what the path leaves open of the patterns,
-- and not on how many levels there are, if there are enough.
use Rattle.std.proofs.Common.{◌≡◌, ℕ, zero, suc, Bool, true, false, ◌||◌, cond, not, List, [], ◌∷◌, ◌++◌, map, None, refl, sym, ap, ap₂, ◌∙◌, true≢false}
use Rattle.std.proofs.lemmas.List.{map-append}
use Rattle.std.specs.List.{flat_map, list_any}
use Rattle.std.specs.Str.{chars}
use Rattle.keep_names.specs.BlobId.{tree_at}
use Rattle.keep_names.specs.declared.id.Id.{Id}
use Rattle.keep_repo.specs.Repository.{Repository}
use Rattle.keep_tree.specs.Tree.{KindData, dir, file, other, NodeData}
use Rattle.keep_patterns.proofs.Decided.{left_decides, left_decides_matched}
use Rattle.keep_patterns.specs.Parsing.{PatternData}
use Rattle.keep_patterns.specs.Rests.{left_at}
use Rattle.keep_patterns.specs.Without.{is_matched, without}
use Rattle.keep_catalog.specs.Naming.{named_by, named_in}
use Rattle.keep_reach.specs.Reach.{first_of, refusal_at}
use Rattle.keep_build.specs.Blobs.{BlobData, id_of, tree_blob}
use Rattle.keep_rewrite.specs.Leaving.{Path, finished, goes, kind_finished, kind_left, kind_loses, loses, node_left, node_loses, nodes_finished, nodes_in, nodes_left, path_below, tree_left}
use Rattle.keep_rewrite.proofs.Nodes.{AreHad, below_had, first_had, none_first, rest_had}

-- the characters of a path with one name more
pub chars_below : (at : Path) (node : NodeData) → map chars (path_below at node) ≡ map chars at ++ chars node.name ∷ []
chars_below at node = map-append chars at (node.name ∷ [])

-- the two paths leave the same open
abbrev pub AreOne : List PatternData → Path → Path → Type 0
AreOne patterns at bt = left_at patterns (map chars at) ≡ left_at patterns (map chars bt)

module _ (patterns : List PatternData) where
  pub one_below : (at bt : Path) (node : NodeData) → AreOne patterns at bt → AreOne patterns (path_below at node) (path_below bt node)
  one_below at bt node one =
      ap (left_at patterns) (chars_below at node)
      ∙ left_decides patterns (map chars at) (map chars bt) one (chars node.name ∷ [])
      ∙ sym (ap (left_at patterns) (chars_below bt node))

  pub goes_alike : (at bt : Path) (node : NodeData) → AreOne patterns at bt → goes patterns at node ≡ goes patterns bt node
  goes_alike at bt node one =
      ap (is_matched patterns) (chars_below at node)
      ∙ left_decides_matched patterns (map chars at) (map chars bt) one (chars node.name) []
      ∙ sym (ap (is_matched patterns) (chars_below bt node))

module _ (r : Repository) (patterns : List PatternData) where
  -- what is said of the tree at two paths and with two numbers of levels
  pub record Alike (l m : ℕ) (at bt : Path) (tree : Id) : Type 0 where
    pub loses_so : loses r patterns l at tree ≡ loses r patterns m bt tree
    pub left_so : tree_left r patterns l at tree ≡ tree_left r patterns m bt tree
    pub finished_so : finished r patterns l at tree ≡ finished r patterns m bt tree

  abbrev AlikeBelow : ℕ → ℕ → Type 0
  AlikeBelow l m =
      (at bt : Path) (tree : Id) → AreOne patterns at bt → refusal_at (named_by r) l (tree_at tree) ≡ None
      → refusal_at (named_by r) m (tree_at tree) ≡ None → Alike l m at bt tree

  module _ (l m : ℕ) (alike : AlikeBelow l m) where
    kind_loses_alike : (at bt : Path) (kind : KindData) → AreOne patterns at bt → first_of (refusal_at (named_by r) l) (named_in kind) ≡ None → first_of (refusal_at (named_by r) m) (named_in kind) ≡ None
        → kind_loses (loses r patterns l) at kind ≡ kind_loses (loses r patterns m) bt kind
    kind_loses_alike at bt (dir subtree) one hl hm = (alike at bt subtree one (none_first _ _ hl) (none_first _ _ hm)).loses_so
    kind_loses_alike at bt (file content) one hl hm = refl
    kind_loses_alike at bt (other type_name) one hl hm = refl

    kind_left_alike : (at bt : Path) (kind : KindData) → AreOne patterns at bt → first_of (refusal_at (named_by r) l) (named_in kind) ≡ None → first_of (refusal_at (named_by r) m) (named_in kind) ≡ None
        → kind_left (tree_left r patterns l) at kind ≡ kind_left (tree_left r patterns m) bt kind
    kind_left_alike at bt (dir subtree) one hl hm = ap dir (alike at bt subtree one (none_first _ _ hl) (none_first _ _ hm)).left_so
    kind_left_alike at bt (file content) one hl hm = refl
    kind_left_alike at bt (other type_name) one hl hm = refl

    kind_finished_alike : (at bt : Path) (kind : KindData) → AreOne patterns at bt → first_of (refusal_at (named_by r) l) (named_in kind) ≡ None → first_of (refusal_at (named_by r) m) (named_in kind) ≡ None
        → kind_finished (finished r patterns l) at kind ≡ kind_finished (finished r patterns m) bt kind
    kind_finished_alike at bt (dir subtree) one hl hm = (alike at bt subtree one (none_first _ _ hl) (none_first _ _ hm)).finished_so
    kind_finished_alike at bt (file content) one hl hm = refl
    kind_finished_alike at bt (other type_name) one hl hm = refl

    module _ (at bt : Path) (one : AreOne patterns at bt) where
      any_alike : (nodes : List NodeData) → AreHad r l nodes → AreHad r m nodes
          → list_any (node_loses patterns (loses r patterns l) at) nodes ≡ list_any (node_loses patterns (loses r patterns m) bt) nodes
      any_alike [] hl hm = refl
      any_alike (node ∷ nodes) hl hm =
          ap₂ (λ a b. a || b)
          (ap₂ (λ a b. a || b) (goes_alike patterns at bt node one)
          (kind_loses_alike (path_below at node) (path_below bt node) node.kind (one_below patterns at bt node one) (first_had r l node nodes hl) (first_had r m node nodes hm)))
          (any_alike nodes (rest_had r l node nodes hl) (rest_had r m node nodes hm))

      left_alike : (nodes : List NodeData) → AreHad r l nodes → AreHad r m nodes
          → nodes_left patterns (tree_left r patterns l) at nodes ≡ nodes_left patterns (tree_left r patterns m) bt nodes
      left_alike [] hl hm = refl
      left_alike (node ∷ nodes) hl hm =
          cases (goes patterns at node) (goes patterns bt node) (goes_alike patterns at bt node one)
          (ap (λ k. record node { kind = k }) (kind_left_alike (path_below at node) (path_below bt node) node.kind (one_below patterns at bt node one) (first_had r l node nodes hl) (first_had r m node nodes hm)))
          (left_alike nodes (rest_had r l node nodes hl) (rest_had r m node nodes hm))
        where
          cases : (a b : Bool) → a ≡ b → node_left (tree_left r patterns l) at node ≡ node_left (tree_left r patterns m) bt node
              → nodes_left patterns (tree_left r patterns l) at nodes ≡ nodes_left patterns (tree_left r patterns m) bt nodes
              → map (node_left (tree_left r patterns l) at) (cond (not a) (node ∷ without patterns at nodes) (without patterns at nodes))
              ≡ map (node_left (tree_left r patterns m) bt) (cond (not b) (node ∷ without patterns bt nodes) (without patterns bt nodes))
          cases true true same here rest = rest
          cases false false same here rest = ap₂ (λ x xs. x ∷ xs) here rest
          cases true false same here rest = absurd (true≢false same)
          cases false true same here rest = absurd (true≢false (sym same))

      abbrev F : NodeData → List BlobData
      F n = kind_finished (finished r patterns l) (path_below at n) n.kind

      abbrev G : NodeData → List BlobData
      G n = kind_finished (finished r patterns m) (path_below bt n) n.kind

      finished_alike : (nodes : List NodeData) → AreHad r l nodes → AreHad r m nodes
          → nodes_finished patterns (finished r patterns l) at nodes ≡ nodes_finished patterns (finished r patterns m) bt nodes
      finished_alike [] hl hm = refl
      finished_alike (node ∷ nodes) hl hm =
          cases (goes patterns at node) (goes patterns bt node) (goes_alike patterns at bt node one)
          (kind_finished_alike (path_below at node) (path_below bt node) node.kind (one_below patterns at bt node one) (first_had r l node nodes hl) (first_had r m node nodes hm))
          (finished_alike nodes (rest_had r l node nodes hl) (rest_had r m node nodes hm))
        where
          cases : (a b : Bool) → a ≡ b → F node ≡ G node → flat_map F (without patterns at nodes) ≡ flat_map G (without patterns bt nodes)
              → flat_map F (cond (not a) (node ∷ without patterns at nodes) (without patterns at nodes))
              ≡ flat_map G (cond (not b) (node ∷ without patterns bt nodes) (without patterns bt nodes))
          cases true true same here rest = rest
          cases false false same here rest = ap₂ (λ x xs. x ++ xs) here rest
          cases true false same here rest = absurd (true≢false same)
          cases false true same here rest = absurd (true≢false (sym same))

    -- one level more
    next_alike : (at bt : Path) (tree : Id) → AreOne patterns at bt → refusal_at (named_by r) (suc l) (tree_at tree) ≡ None → refusal_at (named_by r) (suc m) (tree_at tree) ≡ None → Alike (suc l) (suc m) at bt tree
    next_alike at bt tree one hl hm =
        let had = below_had r l tree hl in
        let had_too = below_had r m tree hm in
        let any = any_alike at bt one (nodes_in r tree) had had_too in
        let left = left_alike at bt one (nodes_in r tree) had had_too in
        record {
          loses_so = any;
          left_so = ap₂ (λ b nodes. cond b (id_of (tree_blob nodes)) tree) any left;
          finished_so = ap₂ (λ xs ys. xs ++ ys) (finished_alike at bt one (nodes_in r tree) had had_too)
              (ap₂ (λ b nodes. cond b (tree_blob nodes ∷ []) []) any left);
        }

  pub alike : (l m : ℕ) → AlikeBelow l m
  alike zero m at bt tree one hl hm = cc hl
  alike (suc l) zero at bt tree one hl hm = cc hm
  alike (suc l) (suc m) at bt tree one hl hm = next_alike l m (alike l m) at bt tree one hl hm
