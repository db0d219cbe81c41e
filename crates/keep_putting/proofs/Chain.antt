-- Steps of a restore, one after another.
use Rattle.std.proofs.Common.{List, [], ◌∷◌, ◌++◌, refl, sym, subst}
use Rattle.keep_targets.specs.declared.attributes.Owner.{Owner}
use Rattle.keep_putting.specs.Filling.{Source}
use Rattle.keep_putting.specs.Putting.{AreDone, IsOneDone, Stage}
use Rattle.keep_putting.specs.declared.wanted.Wanted.{Wanted}

pub done_more : (pieces : Source) (caller : Owner) (before : List Wanted) (wanted : Wanted) (old between new : Stage)
    → AreDone pieces caller before old between → IsOneDone pieces caller wanted between new → AreDone pieces caller (before ++ wanted ∷ []) old new
done_more pieces caller [] wanted old between new first next = (new, subst (λ s. IsOneDone pieces caller wanted s new) (sym first) next, refl)
done_more pieces caller (one ∷ more) wanted old between new first next =
    (first.0, first.1, done_more pieces caller more wanted first.0 between new first.2 next)
