-- Snapshots whose trees are written anew are covered.
use Rattle.std.proofs.Common.{◌⊎◌, inl, inr, suc, Option, sym, subst}
use Rattle.std.specs.Option.{IsSomeAnd}
use Rattle.keep_names.specs.declared.blob.BlobId.{BlobId}
use Rattle.keep_names.specs.declared.id.Id.{Id}
use Rattle.keep_repo.specs.Repository.{Repository}
use Rattle.keep_change.specs.declared.change.Change.{Change}
use Rattle.keep_catalog.specs.Naming.{named_by}
use Rattle.keep_reach.specs.Reach.{Names, Reaches, most_levels}
use Rattle.keep_reach.specs.Snapshots.{Owes}
use Rattle.keep_sound.specs.Careful.{CarefulIsSafe, GivesPlace, OwedByNeeded}
use Rattle.keep_sound.specs.Forms.{CoveringIsCareful}
use Rattle.keep_sound.specs.Retreeing.{BuiltRetrees, KeptRetrees, RetreesOne, RewritingIsSafe}
use Rattle.keep_sound.proofs.Planning.{owed_by_root, reached_by_root}

pub kept_retrees : KeptRetrees
kept_retrees all c levels tree blob reaches = inr reaches

pub built_retrees : BuiltRetrees
built_retrees all c levels old new given step blob (inl same) = inl (subst (GivesPlace all c) same given)
built_retrees all c levels old new given step blob (inr through) =
    let named = step through.0 through.1 in
    cases named.0 named.1 (named.2 blob through.2)
  where
    cases : (a : BlobId) → Names (named_by all) old a → GivesPlace all c blob ⊎ Reaches (named_by all) levels a blob → GivesPlace all c blob ⊎ Reaches (named_by all) (suc levels) old blob
    cases a names (inl place) = inl place
    cases a names (inr reaches) = inr (inr (a, names, reaches))

module _ (all : Repository) (c : Change) where
  covered : (added : Id) (blob : BlobId) → RetreesOne all c added → Owes all added blob → GivesPlace all c blob ⊎ OwedByNeeded all c blob
  covered added blob one owes =
      let R : Option BlobId → Type 0 = λ o. IsSomeAnd o (λ root. Reaches (named_by all) most_levels root blob) in
      cases (one.retrees blob (subst R one.new_is (reached_by_root all added blob owes)))
    where
      cases : GivesPlace all c blob ⊎ Reaches (named_by all) most_levels one.old blob → GivesPlace all c blob ⊎ OwedByNeeded all c blob
      cases (inl place) = inl place
      cases (inr reaches) =
          let R : Option BlobId → Type 0 = λ o. IsSomeAnd o (λ root. Reaches (named_by all) most_levels root blob) in
          inr (one.snapshot, one.needed, owed_by_root all one.snapshot blob (subst R (sym one.old_is) reaches))

pub rewriting_is_safe : CoveringIsCareful → CarefulIsSafe → RewritingIsSafe
rewriting_is_safe covering safe all known c one once adds rewrites =
    safe all known c one once adds (covering all known c (record {
      no_marks = rewrites.no_marks;
      drops = rewrites.drops;
      covers = λ snapshot added blob owes. covered all c snapshot blob (rewrites.trees snapshot added) owes;
    }))
