use Rattle.std.proofs.Common.{◌≡◌, ℕ, sym, ap, ◌∙◌}
use Rattle.std.specs.FinMap as map
use Rattle.keep_change.specs.Fold.{fold_of}
use Rattle.keep_journal.specs.Kept.{kept}
use Rattle.keep_journal.specs.Opening.{unfold_of}
use Rattle.keep_opening.specs.Opened.{opening_in}
use Rattle.keep_opening.specs.Wanted.{AgreeOnFiles}
use Rattle.keep_repo.specs.Repository.{Repository}
use Rattle.keep_names.specs.declared.file_name.FileName.{FileName}
use Rattle.keep_shelf.specs.Shelved.{Content}
use Rattle.keep_shelf.specs.declared.key.Key.TheVariants.{Live, Trash, Entry}
use Rattle.keep_opening.proofs.opening.test.Goals as goal

agree_on : (one other : Content) → ((name : FileName) → map.get one (Live name) ≡ map.get other (Live name))
    → ((n : ℕ) (name : FileName) → map.get one (Trash n name) ≡ map.get other (Trash n name)) → AgreeOnFiles one other
agree_on one other live trash (Live name) file = live name
agree_on one other live trash (Trash n name) file = trash n name
agree_on one other live trash (Entry n) file = cc file

pub returns-then-not-branch-2-clause-wrong : goal.returns-then-not-branch-2-clause-wrong
returns-then-not-branch-2-clause-wrong c k is right =
    let settled = c.args.settled.now in
    let changes = kept c.args.history.journal in
    let opening : c.in_ok-live.live ≡ opening_in c.args.history.journal settled c.args.marked =
    c.in_ok-live.ensures ∙ c.in_ok-unmake.ensures
    ∙ ap (λ (r : Repository). record r { files = (unfold_of changes r).files }) c.in_ok-put_live.ensures in
    let live : c.remake.new.repo ≡ fold_of changes (opening_in c.args.history.journal settled c.args.marked) =
    c.in_ok-remake.ensures.made c.if-not-branch.false ∙ ap (fold_of changes) opening in
    let agree : AgreeOnFiles settled c.in_ok-wanted.wanted = agree_on settled c.in_ok-wanted.wanted
    (λ name. right.live name ∙ sym (c.in_ok-wanted.ensures.live name ∙ ap (λ (r : Repository). map.get r.files name) live))
    (λ n name. right.trash n name ∙ sym (c.in_ok-wanted.ensures.trash n name)) in
    cc (c.in_ok-agree.ensures.1 agree, c.if-not-branch-2.true)
