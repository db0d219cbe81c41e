-- The law of what is known.
use Rattle.std.specs.Prelude.{◌≡◌, ◌||◌, List}
use Rattle.std.specs.FinSet as set
use Rattle.std.specs.List.{list_any}
use Rattle.keep_names.specs.declared.id.Id.{Id}
use Rattle.keep_repo.specs.Repository.{Repository, is_filled}
use Rattle.keep_change.specs.Filling.{fills}
use Rattle.keep_change.specs.Fold.{Numbered}
use Rattle.keep_view.specs.Shown.{known_of}
use Rattle.keep_view.specs.Telling.{snapshot_file}

-- known is just what the opening has, and what one of the changes adds
abbrev pub KnownAreThereOrAdded : Type 0
KnownAreThereOrAdded =
    (opening : Repository) (ns : List Numbered) (snapshot : Id)
    → set.contains (known_of opening ns) snapshot
    ≡ (is_filled opening (snapshot_file snapshot) || list_any (λ n. fills n.change (snapshot_file snapshot)) ns)
