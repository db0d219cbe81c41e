-- All keys of both were looked at.
use Rattle.std.proofs.Common.{◌≡◌, ◌∙◌, true, false, sym, ap}
use Rattle.std.specs.FinMap as finite
use Rattle.std.specs.List.{list_all}
use Rattle.keep_opening.specs.Wanted.{is_same_at}
use Rattle.keep_opening.proofs.Agreed.{agreed, agrees}
use Rattle.keep_opening.proofs.trash.agree.Goals as goal
use Rattle.keep_opening.proofs.trash.agree.Goals.{then-first, else-first}

pub returns : goal.returns
returns c =
    let one = c.args.one.now in
    let other = c.args.other.now in
    let first : c.in_ok-first.first ≡ list_all (is_same_at one other) (finite.keys one) =
    c.in_ok-first.ensures ∙ ap (list_all (is_same_at one other)) (c.as_slice.ensures.value ∙ c.in_ok-keys.ensures) in
    let second : c.in_ok-second.second ≡ list_all (is_same_at one other) (finite.keys other) =
    c.in_ok-second.ensures ∙ ap (list_all (is_same_at one other)) (c.as_slice-2.ensures.value ∙ c.in_ok-others.ensures) in
    elim c.if-first.branch [
      | then-first w ↦ (
        λ same. agreed one other (sym first ∙ w.if-first.true) (sym second ∙ sym w.result-is ∙ same),
        λ agree. w.result-is ∙ second ∙ agrees one other agree (finite.keys other),
      )
      | else-first w ↦ (
        λ same. absurd (differ (sym w.if-first.false ∙ sym w.result-is ∙ same)),
        λ agree. absurd (differ (sym w.if-first.false ∙ first ∙ agrees one other agree (finite.keys one))),
      )
    ]
  where
    differ : false ≡ true → ⊥
    differ e = cc e
