-- What a walk remembers, one tree later.
use Rattle.std.proofs.Common.{◌≡◌, ℕ, Bool, true, false, cond, List, [], map, None, Some, is_eq, refl, sym, ap, subst, ◌∙◌}
use Rattle.std.proofs.lemmas.Map.Lookups.{exact_pairs}
use Rattle.std.proofs.lemmas.Map.Views.{tells_apart}
use Rattle.std.specs.BTreeMap.{is_at}
use Rattle.std.specs.BTreeMap as tree
use Rattle.std.specs.FinMap.{IsAntisymmetric}
use Rattle.std.specs.Global.{Vec}
use Rattle.std.specs.Map.{lookup}
use Rattle.keep_names.proofs.Orders.{id_exact}
use Rattle.keep_names.specs.BlobId.{tree_at}
use Rattle.keep_names.specs.Orders.{id_cmp}
use Rattle.keep_names.specs.declared.blob.BlobType.{BlobType}
use Rattle.keep_names.specs.declared.id.Id.{Id}
use Rattle.keep_repo.specs.Repository.{Repository}
use Rattle.keep_patterns.proofs.Apart.{rests_apart}
use Rattle.keep_patterns.specs.Parsing.{PatternData}
use Rattle.keep_patterns.specs.RestOrder.{rests_cmp}
use Rattle.keep_patterns.specs.declared.rest.Rest.{Rest}
use Rattle.keep_catalog.specs.Naming.{named_by}
use Rattle.keep_reach.specs.Reach.{refusal_at}
use Rattle.keep_build.specs.Blobs.{BlobData}
use Rattle.keep_build.specs.Storing.{given}
use Rattle.keep_rewrite.specs.Finishing.{Finishes, HasBlobData}
use Rattle.keep_rewrite.specs.Leaving.{Path, finished}
use Rattle.keep_rewrite.specs.Walking.{Asked, IsKnown, IsLeft, IsRight, Leaves, asked_cmp, trees_of}
use Rattle.keep_rewrite.specs.declared.left.Left.{Left}
use Rattle.keep_rewrite.specs.declared.left.Walked.{Walked}
use Rattle.keep_rewrite.proofs.Alike.{alike}
use Rattle.keep_rewrite.proofs.Finished.{known_finished}

rests_exact : IsAntisymmetric rests_cmp
rests_exact a b tied = (rests_apart a b).0 (ap is_eq tied)

asked_exact : IsAntisymmetric asked_cmp
asked_exact x y tied = exact_pairs id_cmp rests_cmp id_exact rests_exact x y tied

module _ (r : Repository) (patterns : List PatternData) where
  -- nothing is remembered yet
  pub none_right : (walked : Walked) → walked.left.entries ≡ [] → IsRight r patterns walked
  none_right walked none = record {
    each = λ asked left is. absurd (never asked left (sym (ap (lookup (is_at (asked_cmp asked))) none) ∙ is));
  } where
    never : (asked : Asked) (left : Left) → None ≡ Some left → ⊥
    never asked left h = (cc h)

  more_known : (old new : Walked) → ((b : BlobData) → HasBlobData (trees_of old) b → HasBlobData (trees_of new) b) → (asked : Asked) (left : Left) → IsKnown r patterns old asked left → IsKnown r patterns new asked left
  more_known old new kept asked left known = record {
    left_so = known.left_so;
    trees_so = λ levels had at leaves b h. kept b (known.trees_so levels had at leaves b h);
  }

  -- what is remembered stays, and no finished tree is lost
  pub more_right : (old new : Walked) → new.left ≡ old.left → ((b : BlobData) → HasBlobData (trees_of old) b → HasBlobData (trees_of new) b) → IsRight r patterns old → IsRight r patterns new
  more_right old new same kept right = record {
    each = λ asked left is. more_known old new kept asked left (right.each asked left (sym (ap (λ m. tree.get asked_cmp m asked) same) ∙ is));
  }

  -- one tree more is remembered
  pub one_right : (old new : Walked) (asked : Asked) (left : Left)
      → ((q : Asked) → tree.get asked_cmp new.left q ≡ cond (is_at (asked_cmp asked) q) (Some left) (tree.get asked_cmp old.left q))
      → new.finished ≡ old.finished → IsRight r patterns old → IsKnown r patterns old asked left → IsRight r patterns new
  one_right old new asked left put same right known = record {
    each = λ q found is. more_known old new kept q found (cases q found (is_at (asked_cmp asked) q) refl (sym (put q) ∙ is));
  } where
    kept : (b : BlobData) → HasBlobData (trees_of old) b → HasBlobData (trees_of new) b
    kept b h = subst (λ (trees : Vec (BlobType × Vec ℕ)). HasBlobData (map given trees.items) b) (sym same) h

    cases : (q : Asked) (found : Left) (b : Bool) → is_at (asked_cmp asked) q ≡ b → cond b (Some left) (tree.get asked_cmp old.left q) ≡ Some found → IsKnown r patterns old q found
    cases q found true here is =
        let e : left ≡ found = cc is in
        subst (λ (l : Left). IsKnown r patterns old q l) e
        (subst (λ (a : Asked). IsKnown r patterns old a left) (tells_apart asked_exact asked q here) known)
    cases q found false other is = right.each q found is

  -- what was found at one path and so many levels is so at each path that leaves the same open
  pub known_so : (walked : Walked) (levels : ℕ) (rests : List Rest) (top : Id) (left : Left) → refusal_at (named_by r) levels (tree_at top) ≡ None
      → (at : Path) → Leaves patterns rests at → IsLeft r patterns levels rests top left
      → ((b : BlobData) → HasBlobData (finished r patterns levels at top) b → HasBlobData (trees_of walked) b)
      → IsKnown r patterns walked (top, rests) left
  known_so walked levels rests top left had at leaves left_is there = record {
    left_so = λ n had_too bt leaves_too.
        let same = alike r patterns levels n at bt top (sym leaves ∙ leaves_too) had had_too in
        let is = left_is at leaves in
        (is.0 ∙ same.loses_so, is.1 ∙ same.left_so);
    trees_so = λ n had_too bt leaves_too b h.
        let same = alike r patterns levels n at bt top (sym leaves ∙ leaves_too) had had_too in
        there b (subst (λ trees. HasBlobData trees b) (sym same.finished_so) h);
  }

  -- a tree that is remembered need not be walked over again
  pub known_finishes : (walked : Walked) (levels : ℕ) (rests : List Rest) (top : Id) (left : Left) → refusal_at (named_by r) levels (tree_at top) ≡ None
      → IsKnown r patterns walked (top, rests) left → (at : Path) → Leaves patterns rests at
      → Finishes (trees_of walked) (trees_of walked) (finished r patterns levels at top)
  known_finishes walked levels rests top left had known at leaves =
      known_finished (trees_of walked) (finished r patterns levels at top) (known.trees_so levels had at leaves)
