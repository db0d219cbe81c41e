-- What a walk makes of one node.
use Rattle.std.proofs.Common.{◌≡◌, ◌≢◌, Bool, true, false, ◌||◌, cond, not, List, [], ◌∷◌, ◌++◌, map, Ok, Err, Result, refl, sym, ap, subst, ◌∙◌}
use Rattle.std.proofs.lemmas.List.{append-nil}
use Rattle.std.specs.List.{flat_map}
use Rattle.std.specs.Str.{chars}
use Rattle.keep_names.specs.declared.id.Id.{Id}
use Rattle.keep_tree.specs.Tree.{NodeData}
use Rattle.keep_patterns.specs.Parsing.{PatternData}
use Rattle.keep_patterns.specs.Rests.{left_at}
use Rattle.keep_patterns.specs.Without.{is_matched}
use Rattle.keep_patterns.specs.declared.rest.Rest.{Rest}
use Rattle.keep_catalog.specs.declared.reach_error.ReachError.{ReachError}
use Rattle.keep_catalog.specs.declared.reach_error.ReachError.TheVariants as reach
use Rattle.keep_plan.specs.Refusal.{of_reach}
use Rattle.keep_plan.specs.declared.plan_error.PlanError.TheVariants.{Memory}
use Rattle.keep_build.specs.Blobs.{BlobData}
use Rattle.keep_rewrite.specs.Finishing.{Finishes}
use Rattle.keep_rewrite.specs.Leaving.{Path, goes, kind_finished, kind_loses, node_left, node_loses, nodes_finished, nodes_left, path_below}
use Rattle.keep_rewrite.specs.Walking.{Leaves}
use Rattle.keep_rewrite.proofs.Alike.{chars_below}
use Rattle.keep_rewrite.proofs.Finished.{none_finished}

-- what a node's name leaves open, and whether a pattern takes it
pub leaves_below : (patterns : List PatternData) (rests : List Rest) (at : Path) (node : NodeData) → rests ≡ left_at patterns (map chars at ++ chars node.name ∷ []) → Leaves patterns rests (path_below at node)
leaves_below patterns rests at node is = is ∙ sym (ap (left_at patterns) (chars_below at node))

pub goes_so : (patterns : List PatternData) (at : Path) (node : NodeData) (b : Bool) → b ≡ is_matched patterns (map chars at ++ chars node.name ∷ []) → goes patterns at node ≡ b
goes_so patterns at node b is = ap (is_matched patterns) (chars_below at node) ∙ sym is

module _ (patterns : List PatternData) (at : Path) (node : NodeData) where
  -- ---- a node that goes

  module _ (gone : goes patterns at node ≡ true) where
    pub gone_loses : (loses : Path → Id → Bool) → true ≡ node_loses patterns loses at node
    gone_loses loses = sym (ap (λ b. b || kind_loses loses (path_below at node) node.kind) gone)

    pub gone_left : (left : Path → Id → Id) (kept : List NodeData) → kept ≡ kept ++ nodes_left patterns left at (node ∷ [])
    gone_left left kept = sym (ap (λ b. kept ++ map (node_left left at) (cond (not b) (node ∷ []) [])) gone ∙ append-nil kept)

    pub gone_finished : (finished : Path → Id → List BlobData) (trees : List BlobData) → Finishes trees trees (nodes_finished patterns finished at (node ∷ []))
    gone_finished finished trees =
        subst (λ more. Finishes trees trees more)
        (sym (ap (λ b. flat_map (λ (n : NodeData). kind_finished finished (path_below at n) n.kind) (cond (not b) (node ∷ []) [])) gone)) (none_finished trees)

  -- ---- one that stays

  module _ (stays : goes patterns at node ≡ false) where
    pub stays_loses : (loses : Path → Id → Bool) (b : Bool) → b ≡ kind_loses loses (path_below at node) node.kind → b ≡ node_loses patterns loses at node
    stays_loses loses b is = is ∙ sym (ap (λ t. t || kind_loses loses (path_below at node) node.kind) stays)

    pub stays_left : (left : Path → Id → Id) (kept later : List NodeData) (made : NodeData) → later ≡ kept ++ made ∷ [] → made ≡ node_left left at node → later ≡ kept ++ nodes_left patterns left at (node ∷ [])
    stays_left left kept later made is made_is =
        is ∙ ap (λ n. kept ++ n ∷ []) made_is
        ∙ sym (ap (λ b. kept ++ map (node_left left at) (cond (not b) (node ∷ []) [])) stays)

    pub stays_finished : (finished : Path → Id → List BlobData) (old new : List BlobData) → Finishes old new (kind_finished finished (path_below at node) node.kind) → Finishes old new (nodes_finished patterns finished at (node ∷ []))
    stays_finished finished old new h =
        subst (λ more. Finishes old new more)
        (sym (append-nil (kind_finished finished (path_below at node) node.kind))
        ∙ sym (ap (λ b. flat_map (λ (n : NodeData). kind_finished finished (path_below at n) n.kind) (cond (not b) (node ∷ []) [])) stays)) h

-- ---- a tree that can't be had

-- the nodes of a tree that isn't refused are wanting only where memory is
pub only_memory : (nodes : Result (List NodeData) ReachError) (ns : List NodeData) (why : ReachError) → nodes ≡ Ok ns → (why ≢ reach.Memory → nodes ≡ Err why) → of_reach why ≡ Memory
only_memory nodes ns reach.TooDeep had h = let no : Ok ns ≡ Err reach.TooDeep = sym had ∙ h (λ e. cc e) in (cc no)
only_memory nodes ns reach.BadTree had h = let no : Ok ns ≡ Err reach.BadTree = sym had ∙ h (λ e. cc e) in (cc no)
only_memory nodes ns (reach.MissingBlob id) had h = let no : Ok ns ≡ Err (reach.MissingBlob id) = sym had ∙ h (λ e. cc e) in (cc no)
only_memory nodes ns (reach.WrongHash id) had h = let no : Ok ns ≡ Err (reach.WrongHash id) = sym had ∙ h (λ e. cc e) in (cc no)
only_memory nodes ns reach.Memory had h = refl
