use Rattle.std.proofs.Common.{◌≡◌, ◌++◌, ◌∷◌, [], false, List, map, sym, ap, subst, ◌∙◌, rules}
use borrow.Author.Tests.{tests}
use Rattle.keep_names.specs.declared.blob.BlobId.{BlobId}
use Rattle.keep_names.specs.declared.blob.BlobType.TheVariants.{Tree}
use Rattle.keep_repo.specs.Repository.{Repository}
use Rattle.keep_build.specs.Blobs.{is_full}
use Rattle.keep_build.specs.Stored.{stored_with}
use Rattle.keep_build.specs.Storing.{Keeps}
use Rattle.keep_archive.specs.Archive.{going_view, held_view}
use Rattle.std.specs.List.{find}
use Rattle.keep_archive.specs.Plans.{has_no_place}
use Rattle.keep_archive.proofs.Reading.{last_made, none_of}
use Rattle.keep_archive.proofs.part_storing.store_last.Goals as goal

pub finish-requires : goal.finish-requires
finish-requires g c =
    let r = c.args.view.now.repo in
    let At : Repository → Type 0 = λ x. Keeps x [] [] c.new-storing.result in
    let new = subst At c.in_ok-catalog.ensures.catalog c.new-storing.ensures in
    let claimed = c.in_ok-missing.ensures.kept (none_of c.in_ok-missing.missing c.in_default.not-Some) r new in
    let taken = c.in_ok-store_all.ensures r c.deref.result.now [] claimed in
    rw c.repo.ensures (c.deref.result.now, map held_view c.deref-2.result.now ++ (Tree, c.in_ok-text.text.items) ∷ [], c.in_ok-tree.ensures.kept r c.deref.result.now (map held_view c.deref-2.result.now) taken)

pub returns : goal.returns
returns g c =
    let r = c.args.view.now.repo in
    let At : Repository → Type 0 = λ x. Keeps x [] [] c.new-storing.result in
    let new = subst At c.in_ok-catalog.ensures.catalog c.new-storing.ensures in
    let none = none_of c.in_ok-missing.missing c.in_default.not-Some in
    let claimed = c.in_ok-missing.ensures.kept none r new in
    let taken = c.in_ok-store_all.ensures r c.deref.result.now [] claimed in
    let kept = c.in_ok-tree.ensures.kept r c.deref.result.now (map held_view c.deref-2.result.now) taken in
    let stored = (rw c.repo.ensures at c.in_ok-stored.ensures) c.deref.result.now (map held_view c.deref-2.result.now ++ (Tree, c.in_ok-text.text.items) ∷ []) kept in
    let short : is_full (Tree, c.in_ok-text.text.items) ≡ false = search (rules, tests) in
    last_made r (going_view c.args.going.now) c.in_ok-text.text.items c.in_ok-tree.tree c.in_ok-stored.stored c.in_ok-catalog.ensures.all_read
    c.in_ok-text.ensures short
    (sym none ∙ c.in_ok-missing.ensures.missing r new ∙ ap (λ (named : List BlobId). find (has_no_place r) named) c.deref.ensures.value)
    c.in_ok-tree.ensures.id
    (stored ∙ (λ i. stored_with r (c.deref.ensures.value i) (map held_view (c.deref-2.ensures.value i) ++ (Tree, c.in_ok-text.text.items) ∷ [])))
