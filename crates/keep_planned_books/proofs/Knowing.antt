-- A view knows what is known in its book.
use Rattle.std.proofs.Common.{◌≡◌, Bool, ◌||◌, List, [], ◌∷◌, sym, ◌∙◌}
use Rattle.std.specs.List.{list_any}
use Rattle.std.proofs.Math.Bool.{or_assoc, or-false}
use Rattle.keep_names.specs.declared.file_name.Kind.TheVariants.{Snapshot}
use Rattle.keep_names.specs.declared.id.Id.{Id}
use Rattle.keep_change.specs.Filling.{fills}
use Rattle.keep_change.specs.Fold.{Numbered}
use Rattle.keep_view.specs.Laws.{KnownAreThereOrAdded}
use Rattle.keep_sound.specs.Selection.{has_snapshot, known_by, with_added}
use Rattle.keep_sound.specs.Standing.{file_facet}
use Rattle.keep_planned_books.specs.SoundBooks.{ViewsKnow}

-- whether one of the changes adds the snapshot
abbrev one_adds : Id → List Numbered → Bool
one_adds id ns = list_any (λ n. fills n.change (file_facet Snapshot id)) ns

known_or_added : (known : Id → Bool) (ns : List Numbered) (id : Id) → known_by known ns id ≡ (known id || one_adds id ns)
known_or_added known [] id = sym (or-false (known id))
known_or_added known (n ∷ ns) id =
    known_or_added (with_added known n) ns id
    ∙ or_assoc (known id) (fills n.change (file_facet Snapshot id)) (one_adds id ns)

pub views_know : KnownAreThereOrAdded → ViewsKnow
views_know told opening ns id = known_or_added (has_snapshot opening) ns id ∙ sym (told opening ns id)
