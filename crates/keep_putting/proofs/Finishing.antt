-- Folders that are finished, the last one first.
use Rattle.std.proofs.Common.{◌≡◌, List, [], ◌∷◌, ◌++◌, refl, sym, ap, subst, ◌∙◌, append-nil, append_assoc}
use Rattle.keep_targets.specs.declared.attributes.Owner.{Owner}
use Rattle.keep_putting.specs.Putting.{AreFinished, IsFinished, Stage}
use Rattle.keep_putting.specs.declared.wanted.Wanted.{Wanted}

-- those at the end are finished
pub record IsFinishedFrom (caller : Owner) (wanted rest : List Wanted) (old new : Stage) : Type 0 where
  pub ended : List Wanted
  pub cut : wanted ≡ rest ++ ended
  pub finished : AreFinished caller ended old new

pub none_yet : (caller : Owner) (wanted : List Wanted) (old : Stage) → IsFinishedFrom caller wanted wanted old old
none_yet caller wanted old = record { ended = []; cut = sym (append-nil wanted); finished = refl }

pub one_more : (caller : Owner) (wanted rest front : List Wanted) (last : Wanted) (old between new : Stage) → IsFinishedFrom caller wanted rest old between
    → rest ≡ front ++ last ∷ [] → IsFinished caller last last.what between new → IsFinishedFrom caller wanted front old new
one_more caller wanted rest front last old between new from is next = record {
  ended = last ∷ from.ended;
  cut = from.cut ∙ ap (λ r. r ++ from.ended) is ∙ append_assoc front (last ∷ []) from.ended;
  finished = (between, from.finished, next);
}

pub all_ended : (caller : Owner) (wanted rest : List Wanted) (old new : Stage) → IsFinishedFrom caller wanted rest old new → rest ≡ []
    → AreFinished caller wanted old new
all_ended caller wanted rest old new from none =
    let whole : wanted ≡ from.ended = from.cut ∙ ap (λ r. r ++ from.ended) none in
    subst (λ w. AreFinished caller w old new) (sym whole) from.finished
