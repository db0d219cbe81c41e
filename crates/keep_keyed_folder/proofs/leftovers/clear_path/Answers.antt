use Rattle.std.proofs.Common.{ap, subst, sym}
use Rattle.keep_files.specs.Act.{Seen}
use Rattle.keep_files.specs.Stands.{IsClosed}
use Rattle.keep_keyed_folder.proofs.Cleared.{cleared_removing, cleared_same, cleared_then, closed_removing}
use Rattle.keep_keyed_folder.specs.Tmp.{IsTmp}
use Rattle.keep_keyed_folder.proofs.leftovers.clear_path.Goals as goal

pub returns-clause-closed : goal.returns-clause-closed
returns-clause-closed g c =
    let seen = g.T.FileTree.seen in
    let asked = subst (λ (s : Seen). IsClosed s.stands) (sym c.in_ok-has_folder.ensures.ok) c.requires in
    closed_removing _ c.remove.result (seen c.has_folder.new.self) (seen c.remove.new.self) c.args.path.now asked c.remove.ensures.can c.remove.ensures.ok c.remove.ensures.err

pub returns-clause-rest : goal.returns-clause-rest
returns-clause-rest g c =
    let seen = g.T.FileTree.seen in
    let tmp : IsTmp c.args.path.now = c.is_tmp.ensures.0 c.if-not-is_tmp.false in
    let before = (seen c.args.tree.now).stands in
    let asked = (seen c.has_folder.new.self).stands in
    cleared_then before asked (seen c.remove.new.self).stands
    (cleared_same before asked (ap (λ (s : Seen). s.stands) c.in_ok-has_folder.ensures.ok))
    (cleared_removing _ c.remove.result (seen c.has_folder.new.self) (seen c.remove.new.self) c.args.path.now tmp c.remove.ensures.can c.remove.ensures.ok c.remove.ensures.err)
