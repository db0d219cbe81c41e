-- What an archive has once all that a walk met was given to it.
use Rattle.std.proofs.Common.{◌≡◌, ℕ, ◌<◌, inl, inr, Option, None, Some, Result, Ok, Err, IfOk, IfSome, List, [], map, Vec, Global, refl, sym, ap, subst, ◌∙◌}
use Rattle.keep_archive.specs.Archive.{ArchiveData, archive_view, PlaceData}
use Rattle.keep_archive.specs.Walked.{nothing}
use Rattle.keep_archive.specs.declared.archive.Archive.{Archive}
use Rattle.keep_sources.specs.Given.{Given}
use Rattle.keep_sources.specs.Told.{Told}
use Rattle.keep_sources.specs.Took.{TookAll, skip_view}
use Rattle.keep_sources.specs.declared.scope.Scope.{Scope}
use Rattle.keep_sources.specs.declared.receives.Stop.{Stop}
use Rattle.keep_sources.specs.declared.skipped.Skipped.{Skipped}
use Rattle.keep_backups.specs.Taken.{Gives, TakenData, kept_in, taken_in, taken_of}
use Rattle.keep_backups.specs.Trees.{AreNodesOf, IsTreeOf}
use Rattle.keep_backups.specs.declared.intake.Filled.{Filled}
use Rattle.keep_backups.proofs.Added.{all_given}

module _ (cut : ℕ) (pos : 0 < cut) where
  -- an empty archive to which all was given has just the nodes of what was met
  pub is_tree : (told : Told) (job : Scope) (a : ArchiveData) (skips : List Skipped)
      → TookAll told Gives job (taken_in (nothing cut)) (taken_in a) [] skips → IsTreeOf told job cut (kept_in a.blobs) a.place.nodes skips
  is_tree told job a skips (inl (listing, listed, took)) =
      let all = all_given cut pos took.met (taken_in (nothing cut)) (taken_in a) refl took.gave in
      let same : a.place.nodes ≡ all.nodes = ap (λ (p : PlaceData). p.nodes) all.place in
      inl (
        listing,
        listed,
        record {
          met = took.met;
          is = took.is;
          all = took.all;
          has = subst (AreNodesOf cut (kept_in a.blobs) took.met) (sym same) (all.are (kept_in a.blobs) (λ blob is. is));
          named = took.named;
        },
      )
  is_tree told job a skips (inr (why, lost, same, named)) = inr (why, lost, ap (λ (t : TakenData). t.place.nodes) same, named)

-- an archive that was empty when all was given to it, if it is open
pub is_tree_if : (cut : ℕ) → 0 < cut → (told : Told) (job : Scope) (start archive : Option ArchiveData) (before skips : List Skipped)
    → start ≡ Some (nothing cut) → before ≡ [] → TookAll told Gives job (taken_of start) (taken_of archive) before skips
    → IfSome archive (λ a. IsTreeOf told job cut (kept_in a.blobs) a.place.nodes skips)
is_tree_if cut pos told job start None before skips starts none took = tt
is_tree_if cut pos told job start (Some a) before skips starts none took =
    let here = subst (λ (o : Option ArchiveData). TookAll told Gives job (taken_of o) (taken_in a) before skips) starts took in
    is_tree cut pos told job a skips (subst (λ (named : List Skipped). TookAll told Gives job (taken_in (nothing cut)) (taken_in a) named skips) none here)

-- a copy of what a walk named tells as well what it took
pub retold : {X : Type 0} (told : Told) (gives : X → Given → X → Type 0) (job : Scope) (given now : X) (skips named copies : List Skipped)
    → map skip_view copies ≡ map skip_view named → TookAll told gives job given now skips named → TookAll told gives job given now skips copies
retold told gives job given now skips named copies same (inl (listing, listed, took)) = inl (
  listing,
  listed,
  record {
    met = took.met;
    is = took.is;
    all = took.all;
    gave = took.gave;
    named = same ∙ took.named;
  },
)
retold told gives job given now skips named copies same (inr (why, lost, kept, says)) = inr (why, lost, kept, same ∙ says)

-- an intake gives back all that a walk took
pub walked : (told : Told) (job : Scope) (start : TakenData) (archive back : Archive) (skips : List Skipped) (done : Result (Vec Skipped Global) Stop)
    (result : Result Filled Stop) → IfOk done (λ skipped. TookAll told Gives job start (taken_of (archive_view archive)) skips skipped.items)
    → back ≡ archive → IfOk result (λ filled. filled.archive ≡ back) → IfOk result (λ filled. done ≡ Ok filled.skipped)
    → IfOk result (λ filled. TookAll told Gives job start (taken_of (archive_view filled.archive)) skips filled.skipped.items)
walked told job start archive back skips done (Ok filled) took own same is =
    let here : TookAll told Gives job start (taken_of (archive_view archive)) skips filled.skipped.items =
    subst (λ (r : Result (Vec Skipped Global) Stop). IfOk r (λ skipped. TookAll told Gives job start (taken_of (archive_view archive)) skips skipped.items)) is took in
    subst (λ (x : Archive). TookAll told Gives job start (taken_of (archive_view x)) skips filled.skipped.items) (sym (same ∙ own)) here
walked told job start archive back skips done (Err cause) took own same is = tt
