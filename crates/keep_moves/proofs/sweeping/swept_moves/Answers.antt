use Rattle.std.proofs.Common.{◌+◌, ◌≤◌, ◌++◌, ◌∙◌, ap, arith, map}
use Rattle.std.specs.List.{filter, flat_map}
use Rattle.keep_journal.specs.History.{final_number}
use Rattle.keep_moves.specs.Lists.{entry_keys, is_silenced, made_final, trash_at, trash_of}
use Rattle.keep_moves.specs.Notices.{silenced_keys}
use Rattle.keep_moves.specs.declared.moves.Move.TheVariants.{Erase}
use Rattle.keep_moves.proofs.Noticed.{silenced_alike}
use Rattle.keep_moves.proofs.Swept.{all_swept, one_swept, trash_end, trash_next}
use Rattle.keep_moves.proofs.sweeping.swept_moves.Goals as goal

pub loop-before-preserved : goal.loop-before-preserved
loop-before-preserved c =
    let j = c.args.history.now.journal in
    let n = c.args.n in
    let f = c.loop-before.before in
    let numbered = c.notices-notices.ensures.numbered in
    let above : j.base ≤ f = omega (arith, numbered.first_final, c.final_number-final_number.ensures, c.loop-before.auto.before) in
    one_swept c.loop-before.moves.items c.sweep_change.new.moves.items (trash_at j (f + 1)) (flat_map (trash_of j) (made_final j (f + 1) n)) (flat_map (trash_of j) (made_final j f n)) _
    (trash_next j f n numbered above c.loop-before-test.true c.requires) c.in_ok-sweep_change.ensures c.loop-before.invariant

pub returns : goal.returns
returns c =
    let j = c.args.history.now.journal in
    let n = c.args.n in
    let f = c.loop-before.before in
    let none = ap (flat_map (trash_of j)) (trash_end j f n c.notices-notices.ensures.numbered c.loop-before-test.false) in
    let g = c.final_number-final_number.result in
    let silenced = ap (λ ns. silenced_keys g n ns) c.notices-notices.ensures.exact ∙ silenced_alike g n j.entries in
    let keys = ap (λ h. entry_keys (filter (λ e. is_silenced h n e.event) j.entries)) c.final_number-final_number.ensures in
    all_swept c.loop-before.moves.items c.sweep_entries.new.moves.items (flat_map (trash_of j) (made_final j f n)) (flat_map (trash_of j) (made_final j (final_number j) n)) (entry_keys (filter (λ e. is_silenced (final_number j) n e.event) j.entries))
    none c.loop-before.invariant
    (c.in_ok-sweep_entries.ensures ∙ ap (λ ks. c.loop-before.moves.items ++ map Erase ks) (silenced ∙ keys))
