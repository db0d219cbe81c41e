use Rattle.std.proofs.Common.{◌≡◌, Bor, List, [], ◌∷◌, map, option_map, reverse, sym, ap, ◌∙◌, true, false}
use Rattle.std.proofs.lemmas.List.{reverse-append}
use Rattle.keep_nodes.specs.Choosing.{lent_view}
use Rattle.keep_nodes.specs.Entries.{entry_view}
use Rattle.keep_nodes.specs.declared.path_node.PathNode.{PathNode}
use Rattle.keep_restores.proofs.Onto.{one_more}
use Rattle.keep_restores.specs.Choosing.{chosen_onto, first}
use Rattle.keep_patterns.specs.Parsing.{pattern_view}
use Rattle.keep_restores.proofs.chosen_entries.chosen_backward.Goals as goal

pub loop-entry-preserved-in_ok-push : goal.loop-entry-preserved-in_ok-push
loop-entry-preserved-in_ok-push c =
    let patterns = map pattern_view c.args.include.now in
    let front = c.in-Some.front.now in
    let last = c.in-Some.entry in
    let behind = map lent_view (reverse c.loop-entry.found.items) in
    let grown : map lent_view (reverse c.push.new.self.items) ≡ lent_view last ∷ behind =
    ap (λ (l : List (Bor PathNode)). map lent_view (reverse l)) c.in_ok-push.ensures.items
    ∙ ap (map lent_view) (reverse-append c.loop-entry.found.items (last ∷ [])) in
    let step = one_more patterns c.loop-entry.rest.now front last.now behind _ (option_map lent_view c.loop-entry.next) true
    c.in-Some.ensures.cases.0 (sym c.if-is_chosen.true ∙ c.in_ok-is_chosen.ensures) c.loop-entry.invariant.next c.loop-entry.invariant.same in
    record {
      same = ap (chosen_onto patterns (map entry_view front)) grown ∙ step;
      next = ap first (sym grown);
    }

pub loop-entry-preserved : goal.loop-entry-preserved
loop-entry-preserved c =
    let patterns = map pattern_view c.args.include.now in
    let behind = map lent_view (reverse c.loop-entry.found.items) in
    record {
      same = one_more patterns c.loop-entry.rest.now c.in-Some.front.now c.in-Some.entry.now behind _ (option_map lent_view c.loop-entry.next) false
          c.in-Some.ensures.cases.0 (sym c.if-is_chosen.false ∙ c.in_ok-is_chosen.ensures) c.loop-entry.invariant.next c.loop-entry.invariant.same;
      next = c.loop-entry.invariant.next;
    }
