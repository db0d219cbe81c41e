-- A veto or a watch of a name that none has.
use Rattle.std.proofs.Common.{◌≡◌, ◌∙◌, ℕ, zero, suc, ◌+◌, ◌≤◌, Bool, true, false, cond, List, [], ◌∷◌, ◌++◌, ap, arith, map, refl, subst}
use Rattle.std.proofs.lemmas.List.{map-append}
use Rattle.std.specs.List.{count_by, list_any}
use Rattle.std.specs.Str.{bytes_eq}
use Rattle.std.proofs.lemmas.Bool.{or_parts}
use Rattle.std.proofs.lemmas.List.Sums.{sum_by-cons, sum_by_push}
use Rattle.std.proofs.lemmas.Slice.Eq.{bytes_eq-Decides}
use Rattle.keep_hooks.specs.Guards.{ArmedData, HooksData, Rule}
use Rattle.keep_book.specs.Armed.{with_veto, with_watch}
use Rattle.keep_book.specs.Names.{HaveNoNameTwice, is_armed, names_veto, names_watch}

-- where none passes, none is counted
none_counted : {X : Type 0} (test : X → Bool) (xs : List X) → list_any test xs ≡ false → count_by test xs ≡ 0
none_counted test [] none = refl
none_counted test (x ∷ xs) none =
    let parts = or_parts (test x) (list_any test xs) none in
    let first = ap (λ b. cond b (suc zero) zero) parts.0 in
    omega (arith, first, none_counted test xs parts.1, sum_by-cons (λ y. cond (test y) 1 0) x xs)

-- one more behind the others is counted where it passes
one_counted : {X : Type 0} (test : X → Bool) (xs : List X) (x : X) → count_by test (xs ++ x ∷ []) ≡ count_by test xs + cond (test x) 1 0
one_counted test xs x = sum_by_push (λ y. cond (test y) 1 0) xs x

-- a name counts no more than once, behind a front that has it once at most, and not at all where the new one has it
at_most_once : (same : Bool) (vetoes watches : ℕ) → (same ≡ true → (vetoes ≡ 0) × (watches ≡ 0)) → vetoes + watches ≤ 1
    → cond same 1 0 + vetoes + watches ≤ 1
at_most_once true vetoes watches none before = let zeros = none refl in omega (arith, zeros.0, zeros.1)
at_most_once false vetoes watches none before = omega (arith, before)

-- where no other has the new one's name, none has a name that is the same
none_has : (hooks : HooksData) (new name : List ℕ) → is_armed new hooks ≡ false → bytes_eq new name ≡ true
    → (count_by (names_veto name) hooks.vetoes ≡ 0) × (count_by (names_watch name) hooks.watches ≡ 0)
none_has hooks new name single same =
    let is : new ≡ name = (bytes_eq-Decides new name).0 same in
    let parts = or_parts (list_any (names_veto name) hooks.vetoes) (list_any (names_watch name) hooks.watches) (subst (λ n. is_armed n hooks ≡ false) is single) in
    (none_counted (names_veto name) hooks.vetoes parts.0, none_counted (names_watch name) hooks.watches parts.1)

pub once_with_veto : (rule : Rule) (hooks : HooksData) → is_armed rule.name hooks ≡ false → HaveNoNameTwice hooks → HaveNoNameTwice (with_veto rule hooks)
once_with_veto rule hooks single once name =
    let once_more = at_most_once (names_veto name rule) (count_by (names_veto name) hooks.vetoes) (count_by (names_watch name) hooks.watches)
    (none_has hooks rule.name name single) (once name) in
    omega (arith, once_more, one_counted (names_veto name) hooks.vetoes rule)

pub once_with_watch : (watch : ArmedData) (hooks : HooksData) → is_armed watch.name hooks ≡ false → HaveNoNameTwice hooks → HaveNoNameTwice (with_watch watch hooks)
once_with_watch watch hooks single once name =
    let once_more = at_most_once (names_watch name watch) (count_by (names_veto name) hooks.vetoes) (count_by (names_watch name) hooks.watches)
    (none_has hooks watch.name name single) (once name) in
    omega (arith, once_more, one_counted (names_watch name) hooks.watches watch)

-- what is shown of a list with one more behind, for which there was made room
pub behind : {A B : Type 0} (f : A → B) (old reserved new : List A) (a : A) (b : B) → new ≡ reserved ++ a ∷ [] → reserved ≡ old → f a ≡ b
    → map f new ≡ map f old ++ b ∷ []
behind f old reserved new a b pushed kept is =
    ap (map f) (pushed ∙ ap (λ xs. xs ++ a ∷ []) kept) ∙ map-append f old (a ∷ []) ∙ ap (λ x. map f old ++ x ∷ []) is
