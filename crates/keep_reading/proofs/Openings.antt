-- The opening under a live repository.
use Rattle.std.proofs.Common.{◌≡◌, zero, suc, true, List, [], ◌∷◌, None, refl, ap, ◌∙◌, arith}
use Rattle.std.specs.List.{list_all}
use Rattle.keep_repo.specs.Repository.{Repository, held}
use Rattle.keep_change.specs.Change.{asked, is_as_asked, is_met, is_ready}
use Rattle.keep_change.specs.Fold.{Numbered, first_break, fold_of}
use Rattle.keep_change.specs.Law.{HaveNoFacetTwice}
use Rattle.keep_change.specs.Result.{put_files, result_of, reverse_of, remove_files}
use Rattle.keep_change.proofs.History.{taking_back_restores_lem}
use Rattle.keep_change.proofs.Law.{no_break}
use Rattle.keep_change.proofs.Records.{and_first}
use Rattle.keep_journal.specs.Journal.{Journal}
use Rattle.keep_journal.specs.Kept.{kept}
use Rattle.keep_journal.specs.Opening.{IsOpen, opening_under, unfold_of}
use Rattle.keep_journal.proofs.Later.{no_facet_twice}
use Rattle.keep_reading.specs.Checks.{Files}

-- changes that are made in turn and taken back, the last first, leave what was there
unfold_fold : (ns : List Numbered) (r : Repository) → HaveNoFacetTwice ns → first_break ns r ≡ None → unfold_of ns (fold_of ns r) ≡ r
unfold_fold [] r once none = refl
unfold_fold (n ∷ ns) r once none =
    let parts = no_break (is_met (held r) n.change) (first_break ns (result_of n.change r)) n.number none in
    let ready : is_ready (held r) n.change ≡ true =
    and_first (is_ready (held r) n.change) (list_all (is_as_asked (held r)) (asked n.change)) parts.0 in
    ap (result_of (reverse_of n.change)) (unfold_fold ns (result_of n.change r) (λ k d within. once (suc k) d (omega arith)) parts.1)
    ∙ taking_back_restores_lem n.change r (once zero n (omega arith)) ready

-- the opening is what is left when the kept changes are taken back
pub opening_told : (opening : Repository) (j : Journal) (live : Repository) → IsOpen opening j live → opening_under j live ≡ opening
opening_told opening j live is =
    ap (unfold_of (kept j)) is.state ∙ unfold_fold (kept j) opening (no_facet_twice _ j is.formed) is.unbroken

-- the files that are left then are told by the live files, whatever the marks
pub files_under : (ns : List Numbered) (r s : Repository) → r.files ≡ s.files → (unfold_of ns r).files ≡ (unfold_of ns s).files
files_under [] r s same = same
files_under (n ∷ ns) r s same = ap (λ (files : Files). remove_files n.change.adds (put_files n.change.drops files)) (files_under ns r s same)
