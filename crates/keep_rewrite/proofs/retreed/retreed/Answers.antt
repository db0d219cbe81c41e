use Rattle.std.proofs.Common.{◌≡◌, ◌+◌, List, [], ◌∷◌, ◌++◌, drop, map, sym, ap, subst, ◌∙◌}
use Rattle.std.proofs.lemmas.List.{append-nil, append_assoc, drop_all, drop_more}
use Rattle.keep_patterns.specs.Parsing.{pattern_view}
use Rattle.keep_snap.specs.Facts.{facts_view}
use Rattle.keep_snap.specs.declared.fact.SnapFacts.{SnapFacts}
use Rattle.keep_build.specs.Blobs.{BlobData}
use Rattle.keep_build.specs.Storing.{given}
use Rattle.keep_rewrite.specs.Finishing.{Finishes}
use Rattle.keep_rewrite.specs.Rewriting.{Retreed, finished_for, retreed_of}
use Rattle.keep_rewrite.specs.Walking.{AreReached, trees_of}
use Rattle.keep_rewrite.proofs.Remembered.{none_right}
use Rattle.keep_rewrite.proofs.Several.{Completes, all_complete, one_completes, retreed_more, retreed_none}
use Rattle.keep_rewrite.proofs.retreed.retreed.Goals as goal

pub loop-facts-init : goal.loop-facts-init
loop-facts-init c =
    let patterns = map pattern_view c.args.walk.now.patterns.now in
    let all = map facts_view c.args.taken.now in
    record {
      reached = c.requires;
      right = none_right c.args.walk.now.catalog.now patterns (record { left = c.new.result; finished = c.new-2.result }) c.new.ensures.empty;
      retreed = ap (λ (xs : List Retreed). xs ++ retreed_of c.args.walk.now.catalog.now patterns all) c.new-retreed.ensures.items;
      trees = λ new h. subst (λ (trees : List BlobData). Finishes trees new (finished_for c.args.walk.now.catalog.now patterns all)) (ap (map given) c.new-2.ensures.items) h;
    }

pub retree_one-requires-clause-had : goal.retree_one-requires-clause-had
retree_one-requires-clause-had c =
    let i = c.loop-facts.facts-index in
    let more : drop i c.args.taken.now ≡ c.facts-item.result ∷ drop (i + 1) c.args.taken.now =
    drop_more c.args.taken.now i c.facts-item.result c.loop-facts-test.true ∙ ap (λ (x : SnapFacts). x ∷ drop (i + 1) c.args.taken.now) (sym c.facts-item.is) in
    (subst (λ (fs : List SnapFacts). AreReached c.args.walk.now.catalog.now (map facts_view fs)) more c.loop-facts.invariant.reached).0

pub retree_one-requires-clause-before : goal.retree_one-requires-clause-before
retree_one-requires-clause-before c = c.loop-facts.invariant.right

pub loop-facts-preserved : goal.loop-facts-preserved
loop-facts-preserved c =
    let r = c.args.walk.now.catalog.now in
    let patterns = map pattern_view c.args.walk.now.patterns.now in
    let all = map facts_view c.args.taken.now in
    let i = c.loop-facts.facts-index in
    let s = facts_view c.facts-item.result in
    let rest = map facts_view (drop (i + 1) c.args.taken.now) in
    let more : drop i c.args.taken.now ≡ c.facts-item.result ∷ drop (i + 1) c.args.taken.now =
    drop_more c.args.taken.now i c.facts-item.result c.loop-facts-test.true ∙ ap (λ (x : SnapFacts). x ∷ drop (i + 1) c.args.taken.now) (sym c.facts-item.is) in
    record {
      reached = (subst (λ (fs : List SnapFacts). AreReached r (map facts_view fs)) more c.loop-facts.invariant.reached).1;
      right = c.in_ok-retree_one.ensures.after;
      retreed = ap (λ (xs : List Retreed). xs ++ retreed_of r patterns rest) c.in_ok-retree_one.ensures.retreed
          ∙ append_assoc c.loop-facts.retreed.items (retreed_of r patterns (s ∷ [])) (retreed_of r patterns rest)
          ∙ ap (λ (xs : List Retreed). c.loop-facts.retreed.items ++ xs) (sym (retreed_more r patterns s rest))
          ∙ ap (λ (fs : List SnapFacts). c.loop-facts.retreed.items ++ retreed_of r patterns (map facts_view fs)) (sym more)
          ∙ c.loop-facts.invariant.retreed;
      trees = one_completes r patterns s rest all (trees_of c.loop-facts.walked) (trees_of c.retree_one.new.walked)
          (subst (λ (fs : List SnapFacts). Completes r patterns (map facts_view fs) all (trees_of c.loop-facts.walked)) more c.loop-facts.invariant.trees)
          c.in_ok-retree_one.ensures.trees;
    }

pub returns-clause-retreed : goal.returns-clause-retreed
returns-clause-retreed c =
    let r = c.args.walk.now.catalog.now in
    let patterns = map pattern_view c.args.walk.now.patterns.now in
    let none = drop_all c.loop-facts.facts-index c.args.taken.now c.loop-facts-test.false in
    sym (append-nil c.loop-facts.retreed.items)
    ∙ ap (λ (xs : List Retreed). c.loop-facts.retreed.items ++ xs) (retreed_none r patterns)
    ∙ ap (λ (fs : List SnapFacts). c.loop-facts.retreed.items ++ retreed_of r patterns (map facts_view fs)) (sym none)
    ∙ c.loop-facts.invariant.retreed

pub returns-clause-trees : goal.returns-clause-trees
returns-clause-trees c =
    let r = c.args.walk.now.catalog.now in
    let patterns = map pattern_view c.args.walk.now.patterns.now in
    let all = map facts_view c.args.taken.now in
    let none = drop_all c.loop-facts.facts-index c.args.taken.now c.loop-facts-test.false in
    all_complete r patterns all (trees_of c.loop-facts.walked)
    (subst (λ (fs : List SnapFacts). Completes r patterns (map facts_view fs) all (trees_of c.loop-facts.walked)) none c.loop-facts.invariant.trees)
