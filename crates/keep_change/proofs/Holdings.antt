-- Numbered changes, made one after another, by what each facet holds.
use Rattle.std.proofs.Common.{ℕ, List, [], ◌∷◌, if◌then◌else◌, Option, Some, None}
use Rattle.keep_repo.specs.Facet.{facet_eq}
use Rattle.keep_change.specs.Change.{Holding, Written, is_met, replaced, written}
use Rattle.keep_change.specs.Fold.{Numbered}

-- what each facet holds once this one is written
abbrev pub one_written : Written → Holding → Holding
one_written w holding facet = if facet_eq w.facet facet then w.after else holding facet

-- what each facet holds once these are written, one after another
abbrev pub each_written : List Written → Holding → Holding
each_written [] holding = holding
each_written (w ∷ ws) holding = each_written ws (one_written w holding)

-- what each facet holds once these changes are made in turn
abbrev pub fold_holding : List Numbered → Holding → Holding
fold_holding [] holding = holding
fold_holding (n ∷ ns) holding = fold_holding ns (replaced (written n.change) holding)

-- the number of the first change that isn't met in its turn, none where each is
abbrev pub break_holding : List Numbered → Holding → Option ℕ
break_holding [] holding = None
break_holding (n ∷ ns) holding =
    if is_met holding n.change then break_holding ns (replaced (written n.change) holding) else Some n.number
