-- What is found of one snapshot, and then of the others.
use Rattle.std.proofs.Common.{◌≡◌, Bool, true, false, cond, List, [], ◌∷◌, ◌++◌, map, filter, refl, sym, ap, subst, ◌∙◌}
use Rattle.std.proofs.lemmas.List.{append-nil}
use Rattle.std.specs.List.{flat_map}
use Rattle.keep_repo.specs.Repository.{Repository}
use Rattle.keep_patterns.specs.Parsing.{PatternData}
use Rattle.keep_snap.specs.Facts.{FactsData}
use Rattle.keep_reach.specs.Reach.{most_levels}
use Rattle.keep_build.specs.Blobs.{BlobData}
use Rattle.keep_rewrite.specs.Finishing.{Finishes, StandsFor}
use Rattle.keep_rewrite.specs.Leaving.{finished, tree_left}
use Rattle.keep_rewrite.specs.Rewriting.{Retreed, finished_for, retreed_of, snapshot_loses}
use Rattle.keep_rewrite.proofs.Finished.{both_finished, none_finished, none_stands}

module _ (r : Repository) (patterns : List PatternData) where
  abbrev left_of : FactsData → Retreed
  left_of s = (s.name, tree_left r patterns most_levels [] s.tree)

  pub retreed_more : (s : FactsData) (rest : List FactsData) → retreed_of r patterns (s ∷ rest) ≡ retreed_of r patterns (s ∷ []) ++ retreed_of r patterns rest
  unfolding retreed_of
  retreed_more s rest = cases (snapshot_loses r patterns s) where
    cases : (b : Bool) → map left_of (cond b (s ∷ filter (snapshot_loses r patterns) rest) (filter (snapshot_loses r patterns) rest))
        ≡ map left_of (cond b (s ∷ []) []) ++ map left_of (filter (snapshot_loses r patterns) rest)
    cases true = refl
    cases false = refl

  pub retreed_none : [] ≡ retreed_of r patterns []
  unfolding retreed_of
  retreed_none = refl

  pub retreed_one : (s : FactsData) (b : Bool) → b ≡ snapshot_loses r patterns s → retreed_of r patterns (s ∷ []) ≡ cond b (left_of s ∷ []) []
  unfolding retreed_of
  retreed_one s b is = ap (λ t. map left_of (cond t (s ∷ []) [])) (sym is) ∙ cases b where
    cases : (t : Bool) → map left_of (cond t (s ∷ []) []) ≡ cond t (left_of s ∷ []) []
    cases true = refl
    cases false = refl

  pub finished_more : (s : FactsData) (rest : List FactsData) → finished_for r patterns (s ∷ []) ++ finished_for r patterns rest ≡ finished_for r patterns (s ∷ rest)
  unfolding finished_for
  finished_more s rest = ap (λ xs. xs ++ flat_map (λ (t : FactsData). finished r patterns most_levels [] t.tree) rest) (append-nil (finished r patterns most_levels [] s.tree))

  pub finished_one : (s : FactsData) → finished r patterns most_levels [] s.tree ≡ finished_for r patterns (s ∷ [])
  unfolding finished_for
  finished_one s = sym (append-nil (finished r patterns most_levels [] s.tree))

  finished_none : [] ≡ finished_for r patterns []
  unfolding finished_for
  finished_none = refl

  -- ---- a loop over them

  -- what is found of those that are to come completes what is found of all
  abbrev pub Completes : List FactsData → List FactsData → List BlobData → Type 0
  Completes rest all trees =
      (new : List BlobData) → Finishes trees new (finished_for r patterns rest) → Finishes [] new (finished_for r patterns all)

  pub one_completes : (s : FactsData) (rest all : List FactsData) (old now : List BlobData) → Completes (s ∷ rest) all old → Finishes old now (finished_for r patterns (s ∷ [])) → Completes rest all now
  one_completes s rest all old now before one new h =
      before new (subst (λ trees. Finishes old new trees) (finished_more s rest) (both_finished old now new (finished_for r patterns (s ∷ [])) (finished_for r patterns rest) one h))

  pub all_complete : (all : List FactsData) (trees : List BlobData) → Completes [] all trees → StandsFor (finished_for r patterns all) trees
  all_complete all trees complete =
      (complete trees (subst (λ more. Finishes trees trees more) finished_none (none_finished trees))).stands [] none_stands
