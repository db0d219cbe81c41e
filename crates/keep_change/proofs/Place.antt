-- What each facet held before a list of changes, read off them and off what it holds after.
use Rattle.std.proofs.Common.{◌≡◌, true, List, [], ◌∷◌, None, refl, sym, ap, ◌∙◌}
use Rattle.std.specs.Option.{option_map_or}
use Rattle.keep_repo.specs.declared.facet.Facet.{Facet}
use Rattle.keep_change.specs.Change.{Holding, written, is_ready, is_met, record_of, replaced}
use Rattle.keep_change.specs.Fold.{Numbered}
use Rattle.keep_change.specs.Holdings.{value_at}
use Rattle.keep_change.proofs.Holdings.{fold_holding, break_holding}
use Rattle.keep_change.proofs.Law.{no_break}
use Rattle.keep_change.proofs.Records.{RecordAt, no_record, a_record, record_at, replaced_outside, ready_inside, and_first}

-- one change: what its records ask for, and what the facets that it doesn't write hold after it
before_one : (n : Numbered) (h g : Holding) → is_ready h n.change ≡ true → g ≡ replaced (written n.change) h → (q : Facet) → RecordAt (written n.change) q → option_map_or (λ w. w.before) (record_of (written n.change) q) (g q) ≡ h q
before_one n h g ready same q (no_record m a) =
    ap (λ o. option_map_or (λ w. w.before) o (g q)) m ∙ (λ i. same i q) ∙ replaced_outside (written n.change) h q m
before_one n h g ready same q (a_record w m a at_q) =
    ap (λ o. option_map_or (λ w. w.before) o (g q)) m ∙ sym (ready_inside (written n.change) h q w ready m at_q)

-- where each change is met in its turn, that is what the facets held
pub value_at_start : (ns : List Numbered) (h : Holding) → break_holding ns h ≡ None → value_at ns (fold_holding ns h) ≡ h
value_at_start [] h e = refl
value_at_start (n ∷ ns) h e =
    let met = no_break (is_met h n.change) _ n.number e in
    λ i q. before_one n h _ (and_first _ _ met.0) (value_at_start ns (replaced (written n.change) h) met.1) q (record_at (written n.change) q) i
