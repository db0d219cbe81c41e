-- One more act: what all leave, and what each does.
use Rattle.std.proofs.Common.{◌≡◌, ℕ, zero, suc, ◌≤◌, List, [], ◌∷◌, ◌++◌, length, take, refl, ap, arith}
use Rattle.std.specs.Prelude.{Some, slice_get}
use Rattle.keep_cases.specs.Acts.{content_after, contents_after, done}
use Rattle.keep_shelf.specs.Shelved.{Content}
use Rattle.keep_cases.specs.declared.shelves.act.Act.{Act}

pub content_after-push : (made : Content) (acts : List Act) (act : Act) → content_after made (acts ++ act ∷ []) ≡ done (content_after made acts) act
content_after-push made [] act = refl
content_after-push made (a ∷ acts) act = content_after-push (done made a) acts act

pub contents_after-push : (made : Content) (acts : List Act) (act : Act) → contents_after made (acts ++ act ∷ []) ≡ contents_after made acts ++ done (content_after made acts) act ∷ []
contents_after-push made [] act = refl
contents_after-push made (a ∷ acts) act = ap (λ (rest : List Content). done made a ∷ rest) (contents_after-push (done made a) acts act)

pub length-contents_after : (made : Content) (acts : List Act) → length (contents_after made acts) ≡ length acts
length-contents_after made [] = refl
length-contents_after made (a ∷ acts) = let rest = length-contents_after (done made a) acts in omega (arith, rest)

-- the record from the opening content on has what the first acts leave
pub contents_after-at : (made : Content) (acts : List Act) (i : ℕ) → i ≤ length acts → slice_get (made ∷ contents_after made acts) i ≡ Some (content_after made (take i acts))
contents_after-at made acts zero within = refl
contents_after-at made [] (suc i) within = absurd (omega (arith, within))
contents_after-at made (a ∷ acts) (suc i) within = contents_after-at (done made a) acts i (omega (arith, within))

-- what an act in the record rests on
pub ruleset acting = (content_after-push, contents_after-push)
