-- What a failing tree does beside the tree that it stands before.
use Rattle.std.specs.Prelude.{◌≡◌, ◌⊎◌, ℕ, ◌+◌, ◌≤◌, Bool, false, Result, Err}
use Rattle.keep_files.specs.Act.{Act, Seen, done}
use Rattle.keep_files.specs.declared.tree_error.TreeError.{TreeError}
use Rattle.keep_files.specs.declared.tree_error.TreeError.TheVariants.{Unknown}
use Rattle.keep_shelf.specs.Shelved.{risen}
use Rattle.keep_memory_files.specs.Plan.{fate_at}
use Rattle.keep_memory_files.specs.declared.failing.FailingTree.{FailingTree}
use Rattle.keep_memory_files.specs.declared.tree_failures.Fate.{Fate}
use Rattle.keep_memory_files.specs.declared.tree_failures.Fate.TheVariants.{Passed, Refused, Denied}

-- the tree that it stands before
abbrev pub inner_of : {T : Type 0} → FailingTree T → T
inner_of t = t.inner

-- the tree as it is seen from outside: the inner one, but for the failures, which are counted anew
abbrev pub outside : {T : Type 0} → (T → Seen) → FailingTree T → Seen
outside seen t = record (seen t.inner) { failures = t.failures }

-- what becomes of the call of this number, the next one being number 1
abbrev pub fate_of : {T : Type 0} → FailingTree T → ℕ → Fate
fate_of t n = fate_at t.plan n

-- one call, and whether it went well
pub record TakesTurn {T : Type 0} (seen : T → Seen) (old new : FailingTree T) (went_well : Bool) : Type 0 where
  -- a call that is refused fails, and isn't made of the inner tree
  pub refused : fate_of old 1 ≡ Refused → (went_well ≡ false) × (inner_of new ≡ inner_of old)
  -- one that is denied fails
  pub denied : fate_of old 1 ≡ Denied → went_well ≡ false
  -- another one fails only where the inner tree does
  pub passed : fate_of old 1 ≡ Passed → went_well ≡ false → (seen (inner_of new)).failures ≡ risen (seen (inner_of old)).failures
  -- those that are to come are one nearer
  pub later : (n : ℕ) → 1 ≤ n → fate_of new n ≡ fate_of old (n + 1)

-- an act that is denied is done by the inner tree, and it can't be told; or the inner tree fails
abbrev pub IsDoneIfDenied : {T : Type 0} → (T → Seen) → FailingTree T → FailingTree T → Act → Result (Unit {0}) TreeError → Type 0
IsDoneIfDenied seen old new act result =
    fate_of old 1 ≡ Denied
    → ((result ≡ Err Unknown) × (seen (inner_of new) ≡ done (seen (inner_of old)) act))
    ⊎ ((seen (inner_of new)).failures ≡ risen (seen (inner_of old)).failures)
