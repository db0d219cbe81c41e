-- Nodes that are written alike.
use Rattle.std.proofs.Common.{◌≡◌, true, List, [], ◌∷◌, Ok, refl, sym, ap, ◌∙◌}
use Rattle.std.proofs.lemmas.List.Elements.{All-from_recursion}
use Rattle.std.proofs.lemmas.Slice.Eq.{bytes_eq-Decides}
use Rattle.keep_tree.proofs.ReadBack.{tree_of-compact_text}
use Rattle.keep_tree.specs.Shape.{IsNode, IsTree}
use Rattle.keep_tree.specs.Tree.{NodeData, tree_of}
use Rattle.keep_nodes.specs.Differences.{is_same, node_text}

alone : (node : NodeData) → IsNode node → IsTree (node ∷ [])
alone node is = record { each = All-from_recursion IsNode (node ∷ []) (is, tt); distinct = refl }

pub alike : (a b : NodeData) → IsNode a → IsNode b → is_same a b ≡ true → a ≡ b
alike a b is_a is_b same =
    let texts : node_text a ≡ node_text b = (bytes_eq-Decides (node_text a) (node_text b)).0 same in
    let trees : Ok (a ∷ []) ≡ Ok (b ∷ []) = sym (tree_of-compact_text (a ∷ []) (alone a is_a)) ∙ ap tree_of texts ∙ tree_of-compact_text (b ∷ []) (alone b is_b) in
    cc trees
