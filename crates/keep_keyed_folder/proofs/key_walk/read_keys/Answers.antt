use Rattle.std.proofs.Common.{◌≡◌, ◌∙◌, List, Global, String, ap, length, refl, subst, sym, arith}
use Rattle.std.specs.FinMap as map
use Rattle.keep_shelf.specs.Shelved.{Content}
use Rattle.keep_files.specs.Act.{Seen}
use Rattle.keep_files.specs.Content.{HoldsFiles}
use Rattle.keep_files.specs.Stands.{IsClosed}
use Rattle.keep_keyed_folder.proofs.Way.{begun, ended, none_left, of_err, orderly}
use Rattle.keep_keyed_folder.specs.Walked.{IsOnTheWay, IsOrderly}
use Rattle.keep_keyed_folder.proofs.key_walk.read_keys.Goals as goal

pub loop-init : goal.loop-init
loop-init g c =
    let seen = g.T.FileTree.seen in
    let paths = c.in_ok-paths.paths.items in
    let way = begun (seen c.args.tree.now).stands paths c.requires c.in_ok-paths.ensures.listed in
    let now = subst (λ (s : Seen). IsOnTheWay s.stands map.empty paths) (sym c.in_ok-paths.ensures.ok) way in
    record {
      same = refl;
      way = subst (λ (s : Content). IsOnTheWay (seen c.list.new.self).stands s paths) (sym c.new-found.ensures) now;
    }

pub loop-preserved : goal.loop-preserved
loop-preserved g c = record {
  same = c.in_ok-read_path-in-Some.ensures.ok ∙ c.loop.invariant.same;
  way = subst (λ (s : Seen). IsOnTheWay s.stands c.read_path.new.found c.read_path.new.paths.items) c.loop.invariant.same c.in_ok-read_path-in-Some.ensures.way;
}

pub read_path-requires-clause-closed : goal.read_path-requires-clause-closed
read_path-requires-clause-closed g c = subst (λ (s : Seen). IsClosed s.stands) (sym (c.loop.invariant.same ∙ c.in_ok-paths.ensures.ok)) c.requires

pub read_path-requires-clause-way : goal.read_path-requires-clause-way
read_path-requires-clause-way g c =
    let way = subst (λ (s : Seen). IsOnTheWay s.stands c.loop.found c.loop.paths.items) (sym c.loop.invariant.same) c.loop.invariant.way in
    subst (λ (l : List (String Global)). IsOnTheWay (g.T.FileTree.seen c.loop.tree).stands c.loop.found l) c.in-Some.ensures.items way

pub returns-in_err-read_path-in-Some-clause-err : goal.returns-in_err-read_path-in-Some-clause-err
returns-in_err-read_path-in-Some-clause-err g c =
    of_err _ c.from_residual-in_err-read_path-in-Some.result
    (c.in_err-read_path-in-Some.ensures.err ∙ ap (λ (s : Seen). s.stands) (c.loop.invariant.same ∙ c.in_ok-paths.ensures.ok))

pub returns-in-None-clause-read : goal.returns-in-None-clause-read
returns-in-None-clause-read g c =
    let none : length c.loop.paths.items ≡ 0 = omega (arith, c.loop.paths.ok.0, c.in-None.ensures.cases.0) in
    let content = c.loop.found in
    let way = subst (λ (l : List (String Global)). IsOnTheWay (g.T.FileTree.seen c.list.new.self).stands content l) (none_left c.loop.paths.items none) c.loop.invariant.way in
    subst (λ (s : Seen). HoldsFiles s.stands content) c.in_ok-paths.ensures.ok (ended {A = Global} (g.T.FileTree.seen c.list.new.self).stands content way)

pub returns-in-None-clause-orderly : goal.returns-in-None-clause-orderly
returns-in-None-clause-orderly g c =
    let none : length c.loop.paths.items ≡ 0 = omega (arith, c.loop.paths.ok.0, c.in-None.ensures.cases.0) in
    let content = c.loop.found in
    let way = subst (λ (l : List (String Global)). IsOnTheWay (g.T.FileTree.seen c.list.new.self).stands content l) (none_left c.loop.paths.items none) c.loop.invariant.way in
    subst (λ (s : Seen). IsOrderly s.stands) c.in_ok-paths.ensures.ok (orderly {A = Global} (g.T.FileTree.seen c.list.new.self).stands content way)

pub returns-in-None-clause-ok : goal.returns-in-None-clause-ok
returns-in-None-clause-ok g c = c.loop.invariant.same ∙ c.in_ok-paths.ensures.ok

pub returns-clause-err : goal.returns-clause-err
returns-clause-err g c = ap (λ (s : Seen). s.stands) (c.loop.invariant.same ∙ c.in_ok-paths.ensures.ok)
