-- What a change that is ready finds and leaves in each facet.
use Rattle.std.proofs.Common.{◌≡◌, true, ap, ◌∙◌, sym}
use Rattle.std.specs.Prelude.{None}
use Rattle.std.specs.Option.{option_map_or}
use Rattle.keep_repo.specs.Repository.{held}
use Rattle.keep_repo.specs.declared.facet.Facet.{Facet}
use Rattle.keep_change.specs.Change.{Holding, is_ready, replaced, written}
use Rattle.keep_change.specs.Filling.{WrittenFacetsTurn}
use Rattle.keep_change.specs.Result.{result_of}
use Rattle.keep_change.specs.Touch.{after_of, before_of, writes}
use Rattle.keep_change.specs.declared.change.Change.{Change}
use Rattle.keep_change.proofs.Carry.{held-result_of, writes_once}
use Rattle.keep_change.proofs.Law.{unwritten}
use Rattle.keep_change.proofs.Records.{RecordAt, a_record, no_record, ready_inside, record_at, replaced_inside}

before_at : (c : Change) (h : Holding) → is_ready h c ≡ true → (q : Facet) → writes c q ≡ true → RecordAt (written c) q → h q ≡ before_of c q
before_at c h ready q e (no_record n a) = cc (e, a)
before_at c h ready q e (a_record w n a same) =
    ready_inside (written c) h q w ready n same ∙ sym (ap (λ o. option_map_or (λ w. w.before) o None) n)

after_at : (c : Change) (h : Holding) (q : Facet) → writes c q ≡ true → RecordAt (written c) q → replaced (written c) h q ≡ after_of c q
after_at c h q e (no_record n a) = cc (e, a)
after_at c h q e (a_record w n a same) =
    replaced_inside (written c) h q w n ∙ sym (ap (λ o. option_map_or (λ w. w.after) o None) n)

pub written_facets_turn_lem : WrittenFacetsTurn
written_facets_turn_lem c r once ready =
    let made : held (result_of c r) ≡ replaced (written c) (held r) = held-result_of c (writes_once c once) r in
    record {
      before = λ q e. before_at c (held r) ready q e (record_at (written c) q);
      after = λ q e. ap (λ (h : Holding). h q) made ∙ after_at c (held r) q e (record_at (written c) q);
      others = λ q e. ap (λ (h : Holding). h q) made ∙ unwritten c (held r) q e;
    }
