use Rattle.std.proofs.Common.{[], map, sym, ap, subst, ◌∙◌, Ok}
use Rattle.keep_repo.specs.Repository.{Repository}
use Rattle.keep_build.proofs.Answering.{none_named}
use Rattle.keep_build.specs.Storing.{Keeps}
use Rattle.keep_archive.specs.Archive.{held_view}
use Rattle.keep_archive.proofs.Reading.{when_read}
use Rattle.keep_archive.proofs.part_storing.store_held.Goals as goal

pub finish-requires : goal.finish-requires
finish-requires g c =
    let r = c.args.view.now.repo in
    let At : Repository → Type 0 = λ x. Keeps x [] [] c.new-storing.result in
    rw c.repo.ensures ([], map held_view c.args.held.now, c.in_ok-store_all.ensures r [] [] (subst At c.in_ok-catalog.ensures.catalog c.new-storing.ensures))

pub returns : goal.returns
returns g c =
    let r = c.args.view.now.repo in
    let At : Repository → Type 0 = λ x. Keeps x [] [] c.new-storing.result in
    let kept = c.in_ok-store_all.ensures r [] [] (subst At c.in_ok-catalog.ensures.catalog c.new-storing.ensures) in
    when_read r _ c.in_ok-catalog.ensures.all_read
    ∙ ap Ok (sym ((rw c.repo.ensures at c.in_ok-stored.ensures) [] (map held_view c.args.held.now) kept ∙ none_named r (map held_view c.args.held.now)))
