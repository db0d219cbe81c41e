use Rattle.std.proofs.Common.{◌≡◌, map, string_bytes, eqb, length, sym, ap, ap₂, ◌∙◌, rules}
use Rattle.std.proofs.lemmas.Iterator.{YieldsList-from_map_by, YieldsList-from_slice, items_from_drains}
use Rattle.std.proofs.lemmas.List.{length-map}
use Rattle.std.specs.Set.{distinct_count}
use Rattle.std.specs.Str.{bytes_eq}
use borrow.Author.Tests.{tests}
use Rattle.keep_tree.proofs.Distinct.{len-distinct_count, names_of-nodes}
use Rattle.keep_tree.proofs.names.are_distinct.Goals as goal

pub returns : goal.returns
returns c =
    let ran = c.in_ok-names.ensures.ran in
    let nodes = c.args.nodes.now in
    let texts : map (λ r. r.now) ran.0 ≡ map (λ node. string_bytes node.name) nodes =
    items_from_drains ran.0 ran.1 (YieldsList-from_map_by _ (λ r. r.now) (λ node. string_bytes node.name) (YieldsList-from_slice nodes cc) c.map.ensures.closure (λ x r q k. search (rules, tests))) in
    let counted = c.len.ensures.len ∙ len-distinct_count ran.0 c.in_ok-names.names ran.2 ∙ ap (distinct_count bytes_eq) (texts ∙ sym (names_of-nodes nodes)) in
    ap₂ eqb counted (sym (ap length (names_of-nodes nodes) ∙ length-map nodes (λ node. string_bytes node.name)))
