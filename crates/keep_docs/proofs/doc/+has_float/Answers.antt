use Rattle.std.proofs.Common.{◌≡◌, ◌+◌, ◌∷◌, [], ◌++◌, ◌||◌, drop, take, sym, ap, ◌∙◌, subst, arith, rules, append_assoc, append-nil}
use Rattle.std.proofs.lemmas.List.{drop_more, take_more}
use Rattle.serde_json.specs.Data.{number}
use Rattle.serde_json.specs.View.{view, number_view, items_view, members_view}
use Rattle.serde_json.specs.Written.{items_have_float, members_have_float}
use Rattle.serde_json.specs.declared.value.Value.{the_lemmas}
use Rattle.serde_json.proofs.Views.{Entry}
use Rattle.keep_docs.specs.Readable.{IsReadable, AreReadable}
use Rattle.keep_docs.proofs.Values.{EachReadable, IsReadable-plain, AreReadable-push, EachReadable-push, HasReadable-entries}
use Rattle.keep_docs.proofs.doc.+has_float.Goals as goal

pub has_float-returns-in-Number-clause-readable : goal.has_float-returns-in-Number-clause-readable
has_float-returns-in-Number-clause-readable t c = λ whole.
    let seen : view c.args.value.now ≡ number (number_view c.in-Number.number) = rw c.in-Number.is (search (rules, the_lemmas)) in
    subst IsReadable (sym seen) (c.is_float.ensures.whole whole)

pub has_float-returns-in-Null-3-clause-readable : goal.has_float-returns-in-Null-3-clause-readable
has_float-returns-in-Null-3-clause-readable t c = λ _. IsReadable-plain c.args.value.now c.in-Null.is

pub items_have_float-loop-item-preserved : goal.items_have_float-loop-item-preserved
items_have_float-loop-item-preserved t c =
    let l = c.loop-item in
    let xs = c.deref-item-items.result.now in
    let x = c.item-item.result in
    let rest = drop (l.item-index + 1) xs in
    let here : drop l.item-index xs ≡ x ∷ rest = drop_more xs l.item-index x (omega arith) ∙ ap (λ y. y ∷ rest) (sym c.item-item.is) in
    let more : take (l.item-index + 1) xs ≡ take l.item-index xs ++ x ∷ [] = take_more xs l.item-index x (omega arith) ∙ ap (λ y. take l.item-index xs ++ y ∷ []) (sym c.item-item.is) in (
      l.invariant.0 ∙ ap (λ ys. items_have_float (items_view ys)) here ∙ ap (λ b. b || items_have_float (items_view rest)) (sym c.has_float.ensures.value ∙ c.if-has_float.false),
      subst (λ ys. AreReadable (items_view ys)) (sym more) (AreReadable-push (take l.item-index xs) x l.invariant.1 (c.has_float.ensures.readable c.if-has_float.false)),
    )

pub members_have_float-loop-member-preserved : goal.members_have_float-loop-member-preserved
members_have_float-loop-member-preserved t c =
    let l = c.loop-member in
    let done = l.invariant.1 in
    let e : Entry = (c.in-Some.field-0-0.now, c.in-Some.member.now) in
    let left = c.next.new.self in
    let step : l.member-iterator ≡ e ∷ left = c.in-Some.ensures.steps in
    let all : c.args.members.now.entries ≡ done ++ e ∷ left = l.invariant.2 ∙ ap (λ es. done ++ es) step in (
      l.invariant.0 ∙ ap (λ es. members_have_float (members_view es)) step ∙ ap (λ b. b || members_have_float (members_view left)) (sym c.has_float.ensures.value ∙ c.if-has_float.false),
      done ++ e ∷ [],
      all ∙ sym (append_assoc done (e ∷ []) left),
      EachReadable-push done e l.invariant.3 (c.has_float.ensures.readable c.if-has_float.false),
    )

pub members_have_float-returns-clause-readable : goal.members_have_float-returns-clause-readable
members_have_float-returns-clause-readable t c = λ _.
    let l = c.loop-member in
    let done = l.invariant.1 in
    let all : c.args.members.now.entries ≡ done = l.invariant.2 ∙ ap (λ es. done ++ es) c.in-None.ensures.steps.0 ∙ append-nil done in
    HasReadable-entries c.args.members.now.entries (subst EachReadable (sym all) l.invariant.3) c.iter-member-items.ensures.ordered
