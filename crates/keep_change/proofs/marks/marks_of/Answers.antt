-- Each entry of the map is one mark.
use Rattle.std.proofs.Common.{◌≡◌, Ok, map, ap, ◌∙◌, rules, tests}
use Rattle.std.proofs.lemmas.Iterator.{YieldsList-from_map, YieldsList-from_slice, items_from_collect}
use Rattle.std.proofs.lemmas.Iterator.Consumers.{YieldsList-at}
use Rattle.std.specs.declared.alloc.AllocError.{AllocError}
use Rattle.keep_change.specs.Marks as spec
use Rattle.keep_change.proofs.marks.marks_of.Goals as goal

pub returns : goal.returns
returns c =
    let entries = c.in_ok-entries.entries in
    let listed : c.in_ok-marks.marks.items ≡ map spec.pack_mark entries.items =
    items_from_collect {E = AllocError} (Ok c.in_ok-marks.marks) c.in_ok-marks.ensures.ran
    (YieldsList-from_map _ spec.pack_mark (YieldsList-at c.map.ensures.source (YieldsList-from_slice entries.items (c.iter.ensures.rest ∙ c.deref.ensures.value))) c.map.ensures.closure (λ x r q k. search (rules, tests))) in
    c.from_vec.ensures ∙ listed ∙ ap (map spec.pack_mark) c.in_ok-entries.ensures
