use Rattle.std.proofs.Common.{◌≡◌, ◌∙◌, true, false, inl, inr, length, refl, subst, sym, arith}
use Rattle.std.proofs.lemmas.Bool.{cases_Bool, false≢true}
use Rattle.keep_files.specs.Act.{Seen}
use Rattle.keep_files.specs.Path.{IsListed}
use Rattle.keep_files.specs.Stands.{IsClosed, is_file}
use Rattle.keep_keyed_folder.proofs.Cleared.{cleared_same, cleared_then, file_is_there, listed_last, listed_none, still_file}
use Rattle.keep_keyed_folder.specs.Tmp.{IsCleared, IsTmp}
use Rattle.keep_keyed_folder.proofs.leftovers.clear.Goals as goal

pub loop-path-init : goal.loop-path-init
loop-path-init g c =
    let seen = g.T.FileTree.seen in
    record {
      closed = subst (λ (s : Seen). IsClosed s.stands) (sym c.in_ok-paths.ensures.ok) c.requires;
      rest = cleared_same _ _ refl;
      none_failed = refl;
      listed = λ path tmp file.
          let before : is_file ((seen c.args.tree.now).stands path) ≡ true = subst (λ (s : Seen). is_file (s.stands path) ≡ true) c.in_ok-paths.ensures.ok file in
          (c.in_ok-paths.ensures.listed path).1 (file_is_there _ before, inl (refl, tmp.0));
    }

pub loop-path-preserved : goal.loop-path-preserved
loop-path-preserved g c =
    let seen = g.T.FileTree.seen in
    let first = (seen c.list.new.self).stands in
    let before = (seen c.loop-path.tree).stands in
    let after = (seen c.clear_path.new.tree).stands in
    record {
      closed = c.in_ok-clear_path.ensures.closed;
      rest = cleared_then first before after c.loop-path.invariant.rest c.in_ok-clear_path.ensures.rest;
      none_failed = c.in_ok-clear_path.ensures.none_failed ∙ c.loop-path.invariant.none_failed;
      listed = λ path tmp file.
          let was = c.loop-path.invariant.listed path tmp (still_file before after path c.in_ok-clear_path.ensures.rest file) in
          elim (listed_last c.pop.new.self.items c.in-Some.path path (subst (λ l. IsListed l path) c.in-Some.ensures.items was)) [
            | inl listed ↦ listed
            | inr same ↦
                let gone = subst (λ p. IsTmp p → is_file (after p) ≡ false) (c.as_str.ensures.value ∙ same) c.in_ok-clear_path.ensures.gone in
                absurd (false≢true (sym (gone tmp) ∙ file))
          ];
    }

pub returns-clause-gone : goal.returns-clause-gone
returns-clause-gone g c = λ path tmp.
    let none : length c.loop-path.paths.items ≡ 0 = omega (arith, c.loop-path.paths.ok.0, c.in_default.ensures.cases.0) in
    elim (cases_Bool (is_file ((g.T.FileTree.seen c.loop-path.tree).stands path))) [
      | inl file ↦ absurd (listed_none c.loop-path.paths.items path none (c.loop-path.invariant.listed path tmp file))
      | inr other ↦ other
    ]

pub returns-clause-rest : goal.returns-clause-rest
returns-clause-rest g c =
    let seen = g.T.FileTree.seen in
    subst (λ (s : Seen). IsCleared s.stands (seen c.loop-path.tree).stands) c.in_ok-paths.ensures.ok c.loop-path.invariant.rest
