-- What is read is read, and what isn't has no reading.
use Rattle.std.proofs.Common.{◌≡◌, ◌∷◌, [], inl, inr}
use Rattle.std.specs.FinMap as finite
use Rattle.keep_damage.specs.Damage.{IsRest}
use Rattle.keep_damage.specs.declared.finding.Finding.TheVariants.{Unmade}
use Rattle.keep_damage.proofs.Damages.{if_ok}
use Rattle.keep_damage.proofs.damage.what_is_left.Goals as goal
use Rattle.keep_damage.proofs.damage.what_is_left.Goals.{in-Ok, in-Err-BadEntry, in-Err-Memory}

pub returns : goal.returns
returns c =
    elim c.match-read.branch [
      | in-Ok w ↦ rw w.result-is (inl (w.new.ensures.items, (w.in-Ok.field-0.opening, w.in-Ok.field-0.history.journal, w.in-Ok.ensures.read)))
      | in-Err-BadEntry w ↦
          rw w.result-is (if_ok w.unmade.result (λ found. found.items ≡ Unmade ∷ []) (λ found. IsRest (finite.get c.args.stock.now) found.items) w.unmade.ensures
          (λ found is. inr (is, (w.in-Err-BadEntry.ensures.refused _ w.in-Err-BadEntry.field-0-is).unread)))
      | in-Err-Memory w ↦ rw w.result-is tt
    ]
