use Rattle.std.proofs.Common.{◌≡◌, List, ◌∷◌, [], ◌++◌, map, string_bytes, true, cond, sym, ap, subst, ◌∙◌, rules}
use Rattle.std.proofs.Math.Logic.{∥∥₁_elim, ∥∥₁_map, ∥∥₁_prop}
use Rattle.std.proofs.lemmas.List.{map-append}
use Rattle.std.proofs.lemmas.Map.Text.{is_eq-slice_cmp}
use Rattle.std.specs.List.{list_any}
use Rattle.keep_tree.specs.Shape.{IsTree}
use Rattle.keep_tree.specs.Tree.{NodeData, names_of, node_view, tree_view}
use Rattle.std.specs.Str.{bytes_eq}
use Rattle.keep_archive.proofs.Noded.{known_more, tree_more}
use Rattle.keep_archive.proofs.folder.Folder.with.Goals as goal

pub invariant_of-result : goal.invariant_of-result
invariant_of-result c =
    let nodes = tree_view c.args.self.tree in
    let node = node_view c.args.node in
    let all : map node_view c.push.new.self.items ≡ nodes ++ node ∷ [] = ap (map node_view) c.in_ok-push.ensures.items ∙ map-append node_view c.args.self.tree.nodes.items (c.args.node ∷ []) in
    let copied : string_bytes c.in_ok-name.name ≡ string_bytes c.args.node.name = search rules in
    record {
      stands = ∥∥₁_elim c.args.self.stands ∥∥₁_prop (λ tree. ∥∥₁_map c.requires.stands (λ stands.
          subst IsTree (sym all) (tree_more nodes node c.requires.apart tree stands)));
      known = λ name.
          known_more nodes node (string_bytes name) (string_bytes c.in_ok-name.name) _
          (c.in_ok-insert.ensures.updates.0 name
          ∙ (λ i. cond (is_eq-slice_cmp (string_bytes c.in_ok-name.name) (string_bytes name) i) true (c.args.self.known name i)))
          copied
          ∙ ap (λ (ns : List NodeData). list_any (bytes_eq (string_bytes name)) (names_of ns)) (sym all);
    }
