-- A walk that begins with a rescue that has done nothing.
use Rattle.std.proofs.Common.{◌≡◌, List, [], subst, sym}
use Rattle.keep_sources.specs.Told.{Told}
use Rattle.keep_sources.specs.declared.scope.Scope.{Scope}
use Rattle.keep_sources.specs.declared.skipped.Skipped.{Skipped}
use Rattle.keep_targets.specs.Call.{Call}
use Rattle.keep_rescue.specs.Rescued.{IsTaken, IsWalked, IsWanted}
use Rattle.keep_rescue.specs.Salvage.{SalvageData, begun}
use Rattle.keep_rescue.specs.Seen.{seen_by}
use Rattle.keep_rescue.specs.declared.salvage.Salvage.{Salvage}

pub walked_so : {T : Type 0} (told : Told) (calls_of : T → List Call) (before : List Call) (job : Scope) (start : SalvageData)
    (skips : List Skipped) (salvage now : Salvage T) (skipped : List Skipped) → IsWanted job → start ≡ begun before → skips ≡ []
    → salvage ≡ now → IsTaken told job start (seen_by calls_of now) skips skipped → IsWalked told calls_of before salvage skipped
walked_so {T} told calls_of before job start skips salvage now skipped wanted new none same taken = record {
  job = job;
  wanted = wanted;
  taken = subst (λ (x : SalvageData). IsTaken told job x (seen_by calls_of salvage) [] skipped) new
      (subst (λ (x : List Skipped). IsTaken told job start (seen_by calls_of salvage) x skipped) none
      (subst (λ (x : Salvage T). IsTaken told job start (seen_by calls_of x) skips skipped) (sym same) taken));
}
