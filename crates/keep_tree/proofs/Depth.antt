-- How deep trees nest that are written.
use Rattle.std.proofs.Common.{◌≤◌, List, [], ◌∷◌, map, codes, arith}
use Rattle.std.specs.List.{AllByRecursion}
use Rattle.serde_json.specs.Data.{string, Members, put, depth, items_depth, members_depth}
use Rattle.serde_json.specs.Read.{max_depth}
use Rattle.serde_json.specs.View.{items_of}
use Rattle.keep_names.specs.declared.id.Id.{Id}
use Rattle.keep_docs.specs.Fields.{id_data}
use Rattle.keep_docs.specs.Lists.{ids_data}
use Rattle.keep_docs.proofs.Parts.{depth-put}
use Rattle.keep_tree.specs.Tree.{KindData, dir, file, other, NodeData}
use Rattle.keep_tree.specs.Shape.{IsNode}
use Rattle.keep_tree.specs.Written.{node_data, put_kind, tree_data, type_of}

ids_depth : (ids : List Id) → items_depth (items_of (map id_data ids)) ≤ 0
ids_depth [] = omega arith
ids_depth (id ∷ ids) = let rest = ids_depth ids in omega arith

kind_depth : (kind : KindData) (ms : Members) → members_depth ms ≤ 124 → members_depth (put_kind kind ms) ≤ 124
kind_depth (dir id) ms h = depth-put (codes "subtree") (id_data id) ms 124 (omega arith) h
kind_depth (file ids) ms h = let list = ids_depth ids in depth-put (codes "content") (ids_data ids) ms 124 (omega arith) h
kind_depth (other type_name) ms h = h

node_depth : (node : NodeData) → IsNode node → depth (node_data node) ≤ 125
node_depth node h =
    let below = put_kind node.kind node.others in
    let type_name = string (type_of node.kind) in
    let all : members_depth (put (codes "name") (string node.name) (put (codes "type") type_name below)) ≤ 124 =
    depth-put (codes "name") (string node.name) (put (codes "type") type_name below) 124 (omega arith)
    (depth-put (codes "type") type_name below 124 (omega arith) (kind_depth node.kind node.others h.nests)) in
    omega arith

nodes_depth : (nodes : List NodeData) → AllByRecursion IsNode nodes → items_depth (items_of (map node_data nodes)) ≤ 125
nodes_depth [] h = omega arith
nodes_depth (node ∷ nodes) h =
    let first = node_depth node h.0 in
    let rest = nodes_depth nodes h.1 in
    omega arith

pub depth-tree_data : (nodes : List NodeData) → AllByRecursion IsNode nodes → depth (tree_data nodes) ≤ max_depth
depth-tree_data nodes h = let all = nodes_depth nodes h in omega arith
