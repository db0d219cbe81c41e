use Rattle.std.proofs.Common.{◌≡◌, [], ◌∷◌, ap, subst, IfOk, OnOk, map}
use Rattle.keep_names.specs.declared.blob.BlobType.TheVariants.{Tree}
use Rattle.keep_tree.specs.Tree.{node_view}
use Rattle.keep_build.specs.Blobs.{BlobData, id_of, tree_blob}
use Rattle.keep_backup.specs.Walk.{Took}
use Rattle.keep_backup.proofs.Offering.{refused_as, took_one}
use Rattle.keep_backup.proofs.path_walk.put_tree.Goals as goal

pub returns-clause-took : goal.returns-clause-took
unfolding tree_blob
returns-clause-took c =
    let same : (Tree, c.in_ok-text.text.items) ≡ tree_blob (map node_view c.args.nodes.items) = ap (λ text. (Tree, text)) (c.in_ok-text.ensures.text c.requires) in
    let T : BlobData → Type 0 = λ b. OnOk c.put.result (Took (b ∷ []) c.args.storing.now c.put.new.self) in
    subst T same (took_one c.put.result (Tree, c.in_ok-text.text.items) c.args.storing.now c.put.new.self c.put.ensures.kept)

pub returns-clause-id : goal.returns-clause-id
unfolding tree_blob
returns-clause-id c =
    let same : (Tree, c.in_ok-text.text.items) ≡ tree_blob (map node_view c.args.nodes.items) = ap (λ text. (Tree, text)) (c.in_ok-text.ensures.text c.requires) in
    let I : BlobData → Type 0 = λ b. IfOk c.put.result (λ id. id ≡ id_of b) in
    subst I same c.put.ensures.id

pub returns-clause-refused : goal.returns-clause-refused
unfolding tree_blob
returns-clause-refused c =
    let same : (Tree, c.in_ok-text.text.items) ≡ tree_blob (map node_view c.args.nodes.items) = ap (λ text. (Tree, text)) (c.in_ok-text.ensures.text c.requires) in
    refused_as c.put.result (Tree, c.in_ok-text.text.items) (tree_blob (map node_view c.args.nodes.items)) same c.put.ensures.refused
