use Rattle.std.proofs.Common.{◌≡◌, false, ap}
use mathlib.Core.Bool.{Bool-set}
use Rattle.std.proofs.Math.Logic.{∥∥₁_elim}
use Rattle.serde_json.specs.Written.{has_float}
use Rattle.keep_names.specs.declared.blob.BlobType.TheVariants.{Tree}
use Rattle.keep_tree.proofs.ReadBack.{has_float-tree_data}
use Rattle.keep_tree.specs.Tree.{tree_view}
use Rattle.keep_tree.specs.Written.{tree_data}
use Rattle.keep_plan.proofs.Outcomes.{if_ok}
use Rattle.keep_build.specs.Blobs.{tree_blob}
use Rattle.keep_archive.proofs.folder.Folder.tree_text.Goals as goal

pub returns : goal.returns
unfolding tree_blob
returns c =
    let nodes = tree_view c.args.self.now.tree in
    let whole : has_float (tree_data nodes) ≡ false = ∥∥₁_elim c.args.self.now.stands (Bool-set _ _) (has_float-tree_data nodes) in
    if_ok _ _ c.write_tree.result (λ text is. ap (λ bytes. (Tree, bytes)) (is whole)) c.write_tree.ensures.text
