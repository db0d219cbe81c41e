use Rattle.std.proofs.Common.{◌≡◌, Some, sym, subst}
use Rattle.std.specs.Option.{option_map}
use Rattle.keep_repo.specs.Repository.{Repository}
use Rattle.keep_snap.specs.Snap.{SnapData}
use Rattle.keep_catalog.specs.Files.{snap_in}
use Rattle.keep_nodes.proofs.Roots.{root_there}
use Rattle.keep_nodes.proofs.root.root.Goals as goal

pub returns-in-Some : goal.returns-in-Some
returns-in-Some c =
    let R : Repository → Type 0 = λ x. option_map (λ (s : SnapData). s.tree) (snap_in x c.args.snapshot) ≡ Some c.in-Some.tree in
    root_there c.args.repo.now c.args.snapshot c.in-Some.tree (subst R c.requires (sym c.in-Some.ensures))
