use Rattle.std.proofs.Common.{ℕ, true, false, List, [], ◌∷◌, ◌++◌, map, sym, ap, subst, ◌∙◌}
use Rattle.std.proofs.lemmas.List.{append-nil}
use Rattle.keep_names.specs.declared.id.Id.{Id}
use Rattle.keep_patterns.specs.Parsing.{pattern_view}
use Rattle.keep_snap.specs.Facts.{facts_view}
use Rattle.keep_build.specs.Blobs.{BlobData}
use Rattle.keep_rewrite.specs.Finishing.{Finishes}
use Rattle.keep_rewrite.specs.Leaving.{finished}
use Rattle.keep_rewrite.specs.Rewriting.{Retreed}
use Rattle.keep_rewrite.specs.Walking.{IsLeft, trees_of}
use Rattle.keep_rewrite.proofs.Several.{finished_one, retreed_one}
use Rattle.keep_rewrite.proofs.retreed.retree_one.Goals as goal

pub returns-in_ok-push-clause-retreed : goal.returns-in_ok-push-clause-retreed
returns-in_ok-push-clause-retreed c =
    let r = c.args.walk.now.catalog.now in
    let patterns = map pattern_view c.args.walk.now.patterns.now in
    let s = facts_view c.args.facts.now in
    let L : ℕ → Type 0 = λ n. IsLeft r patterns n c.in_ok-rests.rests s.tree c.in_ok-left.left in
    let is = subst L c.levels.ensures.value c.in_ok-left.ensures.left [] c.in_ok-rests.ensures in
    c.in_ok-push.ensures.items ∙ ap (λ (t : Id). c.args.retreed.now.items ++ (s.name, t) ∷ []) is.1
    ∙ ap (λ (xs : List Retreed). c.args.retreed.now.items ++ xs) (sym (retreed_one r patterns s true (sym c.if-left.true ∙ is.0)))

pub returns-in_ok-push-clause-trees : goal.returns-in_ok-push-clause-trees
returns-in_ok-push-clause-trees c =
    let r = c.args.walk.now.catalog.now in
    let patterns = map pattern_view c.args.walk.now.patterns.now in
    let s = facts_view c.args.facts.now in
    let F : List BlobData → Type 0 = λ trees. Finishes (trees_of c.args.walked.now) (trees_of c.leave.new.walked) trees in
    subst F (ap (λ (n : ℕ). finished r patterns n [] s.tree) c.levels.ensures.value ∙ finished_one r patterns s) (c.in_ok-left.ensures.trees [] c.in_ok-rests.ensures)

pub returns-else-left-clause-retreed : goal.returns-else-left-clause-retreed
returns-else-left-clause-retreed c =
    let r = c.args.walk.now.catalog.now in
    let patterns = map pattern_view c.args.walk.now.patterns.now in
    let s = facts_view c.args.facts.now in
    let L : ℕ → Type 0 = λ n. IsLeft r patterns n c.in_ok-rests.rests s.tree c.in_ok-left.left in
    let is = subst L c.levels.ensures.value c.in_ok-left.ensures.left [] c.in_ok-rests.ensures in
    sym (append-nil c.args.retreed.now.items)
    ∙ ap (λ (xs : List Retreed). c.args.retreed.now.items ++ xs) (sym (retreed_one r patterns s false (sym c.if-left.false ∙ is.0)))

pub returns-else-left-clause-trees : goal.returns-else-left-clause-trees
returns-else-left-clause-trees c =
    let r = c.args.walk.now.catalog.now in
    let patterns = map pattern_view c.args.walk.now.patterns.now in
    let s = facts_view c.args.facts.now in
    let F : List BlobData → Type 0 = λ trees. Finishes (trees_of c.args.walked.now) (trees_of c.leave.new.walked) trees in
    subst F (ap (λ (n : ℕ). finished r patterns n [] s.tree) c.levels.ensures.value ∙ finished_one r patterns s) (c.in_ok-left.ensures.trees [] c.in_ok-rests.ensures)
