-- What is asked is made of the live files that are there.
use Rattle.std.proofs.Common.{◌≡◌, ℕ, ◌∙◌, ap}
use Rattle.std.specs.FinMap as finite
use Rattle.keep_journal.specs.Kept.{kept}
use Rattle.keep_moves.specs.Standing.{trashed}
use Rattle.keep_names.specs.declared.file_name.FileName.{FileName}
use Rattle.keep_opening.specs.Filing.{live_into}
use Rattle.keep_opening.proofs.Glued.{if_ok_two}
use Rattle.keep_reading.specs.Checks.{Files}
use Rattle.keep_repo.specs.Repository.{Repository}
use Rattle.keep_shelf.specs.declared.key.Key.TheVariants.{Live, Trash}
use Rattle.keep_damage.specs.Asked.{IsAsked, asked_live, live_of, passed}
use Rattle.keep_damage.specs.declared.half.Half.TheVariants.{Look, Write}
use Rattle.keep_damage.proofs.asked.asked.Goals as goal

pub returns : goal.returns
returns c =
    let j = c.args.history.now.journal in
    let there = c.args.there.now in
    let same : c.pass_all-2.new.repo.files ≡ asked_live j (live_of there) =
    c.in_ok-pass_all-2.ensures ∙ ap (passed Write (kept j)) (c.in_ok-pass_all.ensures
    ∙ ap (λ (r : Repository). passed Look (kept j) r.files) (c.in_ok-put_live.ensures ∙ ap (live_into there (finite.keys there)) c.new-live.ensures)) in
    if_ok_two c.wanted.result
    (λ stock. (name : FileName) → finite.get stock (Live name) ≡ finite.get c.pass_all-2.new.repo.files name)
    (λ stock. (n : ℕ) (name : FileName) → finite.get stock (Trash n name) ≡ trashed j n name)
    (λ stock. IsAsked j there stock) c.wanted.ensures.live c.wanted.ensures.trash
    (λ stock live trash. record { live = λ name. live name ∙ ap (λ (files : Files). finite.get files name) same; trash = trash })
