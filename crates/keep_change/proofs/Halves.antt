-- A change that was begun where it is ready, and is abandoned, leaves what was there. Either way it writes each facet once.
use Rattle.std.proofs.Common.{◌≡◌, true, map, ap, ◌∙◌, ◌++◌, sym}
use Rattle.std.specs.List.{list_all}
use Rattle.std.proofs.lemmas.Bool.{and_parts}
use Rattle.std.proofs.lemmas.List.Folds.{list_all-append}
use Rattle.keep_repo.specs.Repository.{Repository, held}
use Rattle.keep_change.specs.Change.{added, cleared, dropped, is_as_written, is_ready, set, written}
use Rattle.keep_change.specs.Form.{HasNoFacetTwice}
use Rattle.keep_change.specs.Halves.{begun_of, completed_of, turned}
use Rattle.keep_change.specs.Result.{reverse_of, remove_marks}
use Rattle.keep_change.specs.declared.change.Change.{Change}
use Rattle.keep_change.specs.declared.turn.Turn.{Turn}
use Rattle.keep_change.specs.declared.turn.Turn.TheVariants.{Make, TakeBack}
use Rattle.keep_change.proofs.Carry.{reverse_writes_once, writes_once}
use Rattle.keep_change.proofs.Exchange.{files_back, marks_back}
use Rattle.keep_change.proofs.Records.{WritesOnce}

-- where a change is ready there are none of its adds, and none of its sets
nothing_there : (c : Change) (r : Repository) → is_ready (held r) c ≡ true
    → (list_all (is_as_written (held r)) (map added c.adds) ≡ true) × (list_all (is_as_written (held r)) (map set c.sets) ≡ true)
nothing_there c r ready =
    let p = is_as_written (held r) in
    let one = and_parts _ _ (sym (list_all-append p (map added c.adds) (map dropped c.drops ++ (map set c.sets ++ map cleared c.clears))) ∙ ready) in
    let two = and_parts _ _ (sym (list_all-append p (map dropped c.drops) (map set c.sets ++ map cleared c.clears)) ∙ one.1) in
    let three = and_parts _ _ (sym (list_all-append p (map set c.sets) (map cleared c.clears)) ∙ two.1) in
    (one.0, three.0)

pub abandoned : (c : Change) (r old new : Repository) → is_ready (held r) c ≡ true → old ≡ begun_of c r → new ≡ completed_of (reverse_of c) old → new ≡ r
abandoned c r old new ready begun taken =
    let nothing = nothing_there c r ready in
    taken ∙ ap (completed_of (reverse_of c)) begun
    ∙ ap (λ files. record { files = files; marks = remove_marks c.sets (begun_of c r).marks }) (ap (λ (s : Repository). s.files) (files_back r c.adds nothing.0))
    ∙ ap (λ marks. record { files = r.files; marks = marks }) (ap (λ (s : Repository). s.marks) (marks_back r c.sets nothing.1))

pub turned_writes_once : (t : Turn) (c : Change) → HasNoFacetTwice c → WritesOnce (written (turned t c))
turned_writes_once Make c once = writes_once c once
turned_writes_once TakeBack c once = reverse_writes_once c (writes_once c once)
