use Rattle.std.proofs.Common.{◌≢◌, Option, map, sym, ap, ◌∙◌, rules}
use Rattle.std.specs.Option.{option_map}
use Rattle.keep_reach.specs.declared.reached_blobs.ReachedBlob.{ReachedBlob}
use Rattle.keep_catalog.specs.declared.reach_error.ReachError.TheVariants.{Memory}
use Rattle.keep_catalog.specs.declared.spot.Spot.{Spot}
use Rattle.keep_tree.specs.Tree.{node_view}
use Rattle.keep_read.proofs.Below.{bad_nodes, good_nodes, no_nodes}
use Rattle.keep_read.proofs.joined_pieces.nodes_in.Goals as goal

abbrev spot_of : Option ReachedBlob → Option Spot
spot_of found = option_map (λ f. f.spot) found

pub returns-in_default : goal.returns-in_default
returns-in_default c =
    let none = ap spot_of (sym (rw c.tree.ensures at c.in_default.ensures.value)) in
    ap (map node_view) c.new.ensures.items
    ∙ sym (no_nodes c.args.catalog.now c.args.reached.now c.args.tree c.requires none)

pub returns-in-Ok : goal.returns-in-Ok
returns-in-Ok c =
    let found = ap spot_of (sym (rw c.tree.ensures at c.in-Some.ensures.value)) in
    sym (good_nodes c.args.catalog.now c.args.reached.now c.args.tree c.requires c.in-Some.found.now.spot found _ c.in-Ok.ensures)

pub returns-else-is_memory : goal.returns-else-is_memory
returns-else-is_memory c =
    let found = ap spot_of (sym (rw c.tree.ensures at c.in-Some.ensures.value)) in
    let other : c.in-Err.why ≢ Memory = λ h. search rules in
    ap (map node_view) c.new-in-Err.ensures.items
    ∙ sym (bad_nodes c.args.catalog.now c.args.reached.now c.args.tree c.requires c.in-Some.found.now.spot found c.in-Err.why (c.in-Err.ensures other))
