-- What a failing shelf does beside the shelf that it stands before.
use Rattle.std.specs.Prelude.{◌≡◌, ℕ, ◌+◌, ◌≤◌, Bool, true, false}
use Rattle.keep_shelf.specs.Plan.{fails_at}
use Rattle.keep_shelf.specs.Shelved.{Shelved, failed}
use Rattle.keep_shelf.specs.declared.failing.FailingShelf.{FailingShelf}

-- the shelf that it stands before
abbrev pub inner_of : {S : Type 0} → FailingShelf S → S
inner_of s = s.inner

-- the shelf as it is seen from outside: the inner one, but for the failures, which are counted anew
abbrev pub outside : {S : Type 0} → (S → Shelved) → FailingShelf S → Shelved
outside shelved s = record (shelved s.inner) { failures = s.failures }

-- whether the call of this number is chosen to fail, the next one being number 1
abbrev pub is_chosen : {S : Type 0} → FailingShelf S → ℕ → Bool
is_chosen s n = fails_at s.plan n

-- one call, and whether it went well
pub record TakesTurn {S : Type 0} (shelved : S → Shelved) (old new : FailingShelf S) (went_well : Bool) : Type 0 where
  -- a chosen call fails, and doesn't reach the inner shelf
  pub chosen : is_chosen old 1 ≡ true → (went_well ≡ false) × (inner_of new ≡ inner_of old)
  -- another one fails only where the inner shelf does
  pub others : is_chosen old 1 ≡ false → went_well ≡ false → shelved (inner_of new) ≡ failed (shelved (inner_of old))
  -- those that are to come are one nearer
  pub later : (n : ℕ) → 1 ≤ n → is_chosen new n ≡ is_chosen old (n + 1)
