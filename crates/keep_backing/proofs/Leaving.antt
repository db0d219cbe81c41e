-- What a backup leaves.
use Rattle.std.proofs.Common.{◌≡◌, inl, inr, ℕ, List, [], Result, Ok, Err, IfErr, IfOk, subst}
use Rattle.std.specs.Result.{IsOkAnd}
use Rattle.std.proofs.Math.Logic.{∥∥₁_map}
use Rattle.keep_backup.specs.Backup.{FactsData}
use Rattle.keep_backups.specs.Parts.{BacksUp, StoresParts, none}
use Rattle.keep_backups.specs.declared.backed_up.BackedUp.{BackedUp}
use Rattle.keep_backups.specs.declared.not_backed_up.NotBackedUp.{NotBackedUp}
use Rattle.keep_ledger.specs.LedgerState.{LedgerState}
use Rattle.keep_run.specs.Cutting.{piece_length}
use Rattle.keep_sources.specs.Told.{Told}
use Rattle.keep_sources.specs.declared.scope.Scope.{Scope}
use Rattle.keep_sources.specs.declared.skipped.Skipped.{Skipped}
use Rattle.keep_backing.specs.Backed.{MayBeBackedUp}

module _ (told : Told) (job : Scope) (facts : FactsData) (before after : LedgerState) where
  -- what is taken, cut and tagged as asked for is backed up so
  pub added : (taken : Scope) (cut : ℕ) (tags given : List (List ℕ)) (came : Result BackedUp NotBackedUp) → taken ≡ job → cut ≡ piece_length
      → tags ≡ given → IfOk came (λ done. ∥ BacksUp told taken cut facts tags before after done.skipped.items ∥₁)
      → IfOk came (λ done. ∥ BacksUp told job piece_length facts given before after done.skipped.items ∥₁)
  added taken cut tags given (Ok done) takes cuts tagged made = ∥∥₁_map made (λ b.
      subst (λ (of : Scope). BacksUp told of piece_length facts given before after done.skipped.items) takes
      (subst (λ (n : ℕ). BacksUp told taken n facts given before after done.skipped.items) cuts
      (subst (λ (ts : List (List ℕ)). BacksUp told taken cut facts ts before after done.skipped.items) tagged b)))
  added taken cut tags given (Err why) takes cuts tagged made = tt

  -- where nothing was left out, just that is so
  pub nothing_left : (tags : List (List ℕ)) (came : Result BackedUp NotBackedUp) → IsOkAnd came (λ done. done.skipped.items ≡ [])
      → IfOk came (λ done. ∥ BacksUp told job piece_length facts tags before after done.skipped.items ∥₁)
      → ∥ BacksUp told job piece_length facts tags before after [] ∥₁
  nothing_left tags (Ok done) whole made =
      subst (λ (skips : List Skipped). ∥ BacksUp told job piece_length facts tags before after skips ∥₁) whole made
  nothing_left tags (Err why) whole made = absurd whole

  -- whatever came, parts are stored, or the snapshot too
  pub either : (tags : List (List ℕ)) (came : Result BackedUp NotBackedUp)
      → IfOk came (λ done. ∥ BacksUp told job piece_length facts tags before after done.skipped.items ∥₁)
      → IfErr came (λ _. ∥ StoresParts before after ∥₁) → ∥ MayBeBackedUp told job facts tags before after ∥₁
  either tags (Ok done) made parts = ∥∥₁_map made (λ b. inr (done.skipped.items, b))
  either tags (Err why) made parts = ∥∥₁_map parts (λ p. inl p)

-- nothing is done yet
pub not_begun : (told : Told) (job : Scope) (facts : FactsData) (tags : List (List ℕ)) (before : LedgerState)
    → ∥ MayBeBackedUp told job facts tags before before ∥₁
not_begun told job facts tags before = ∣ inl (none before) ∣₁

-- what holds whatever the failure is holds of it
pub whatever : {T E P : Type 0} (result : Result T E) → P → IfErr result (λ _. P)
whatever (Ok value) holds = tt
whatever (Err why) holds = holds
