-- A repository without files has no snapshot, so it is sound.
use Rattle.std.proofs.Common.{◌≡◌, Option, None, ap, subst, ◌∙◌}
use Rattle.std.specs.FinMap as finite
use Rattle.std.specs.Option.{IsSomeAnd}
use Rattle.keep_names.specs.FileName.{named}
use Rattle.keep_names.specs.Orders.{name_cmp}
use Rattle.keep_names.specs.declared.blob.BlobId.{BlobId}
use Rattle.keep_names.specs.declared.file_name.Kind.{Kind}
use Rattle.keep_names.specs.declared.file_name.Kind.TheVariants.{Snapshot}
use Rattle.keep_names.specs.declared.id.Id.{Id}
use Rattle.keep_repo.specs.Repository.{empty_repository}
use Rattle.keep_snap.specs.Snap.{SnapData}
use Rattle.keep_catalog.specs.Files.{snap_read, file_in}
use Rattle.keep_catalog.specs.Naming.{named_by}
use Rattle.keep_reach.specs.Reach.{Reaches, most_levels}
use Rattle.keep_reach.specs.Snapshots.{Owes, root_of}
use Rattle.keep_reach.specs.Sound.{IsSound}
use Rattle.keep_sound.proofs.Parts.{snap_by}

no_file : (kind : Kind) (id : Id) → file_in empty_repository kind id ≡ None
unfolding file_in
no_file kind id = finite.get-empty name_cmp (named kind id)

owes_nothing : (snapshot : Id) (blob : BlobId) → Owes empty_repository snapshot blob → ⊥
owes_nothing snapshot blob owes =
    let O : Option SnapData → Type 0 = λ o. IsSomeAnd o (λ s. Reaches (named_by empty_repository) most_levels (root_of s) blob) in
    nothing (subst O (snap_by empty_repository snapshot ∙ ap snap_read (no_file Snapshot snapshot)) owes)
  where
    nothing : IsSomeAnd (snap_read None) (λ s. Reaches (named_by empty_repository) most_levels (root_of s) blob) → ⊥
    nothing none = none

pub empty_is_sound : IsSound empty_repository
empty_is_sound snapshot blob owes = absurd (owes_nothing snapshot blob owes)
