-- Each change is noted in turn.
use Rattle.std.proofs.Common.{◌≡◌, ◌∙◌, ◌+◌, ◌<◌, ◌++◌, ap, arith, refl, subst, sym, append-nil}
use Rattle.std.specs.List.{filter_map}
use Rattle.keep_journal.specs.History.{committed, final_number}
use Rattle.keep_journal.specs.Kept.{above}
use Rattle.keep_journal.proofs.Commits.{some_change}
use Rattle.keep_journal.proofs.Kept.{above-next, above-past}
use Rattle.keep_journal.proofs.Later.{well_formed_change}
use Rattle.keep_touch.specs.Mentions.{mention_of, mentions}
use Rattle.keep_ledger.proofs.Reading.{all_above, one_noted}
use Rattle.keep_ledger.proofs.noting.notes_of.Goals as goal
use Rattle.keep_ledger.proofs.noting.notes_of.Goals.{in-Some+in_ok-note, in_default}

pub loop-before-init : goal.loop-before-init
loop-before-init c facet =
    let j = c.args.history.now.journal in
    let numbered = c.last_change-before-end.ensures.numbered in
    ap (λ ms. ms ++ filter_map (mention_of facet) (above j c.final_number-before.result)) (c.new-touch.ensures facet)
    ∙ ap (λ n. filter_map (mention_of facet) (above j n)) (c.final_number-before.ensures ∙ sym c.requires.told)
    ∙ ap (filter_map (mention_of facet)) (all_above j numbered)

pub note-requires : goal.note-requires
note-requires c q =
    let j = c.args.history.now.journal in
    let over : final_number j < c.loop-before.before + 1 = omega (arith, c.final_number-before.ensures, c.loop-before.auto.before) in
    (well_formed_change j (c.loop-before.before + 1) c.in-Some.change.now c.requires.formed (sym (c.in-Some.ensures.exact over))).once q

pub loop-before-preserved : goal.loop-before-preserved
loop-before-preserved c facet =
    let j = c.args.history.now.journal in
    let n = c.loop-before.before + 1 in
    let numbered = c.last_change-before-end.ensures.numbered in
    let over : final_number j < n = omega (arith, c.final_number-before.ensures, c.loop-before.auto.before) in
    elim c.match-change.branch [
      | in-Some+in_ok-note w ↦
          let change = w.in-Some.change.now in
          let next = above-next j c.loop-before.before n change numbered refl (sym (w.in-Some.ensures.exact over)) in
          let so_far = ap (λ cs. mentions c.loop-before.touch facet ++ filter_map (mention_of facet) cs) (sym next) ∙ c.loop-before.invariant facet in
          subst (λ (t : _). mentions t facet ++ filter_map (mention_of facet) (above j n) ≡ filter_map (mention_of facet) (committed j)) (sym w.touch-is)
          (one_noted (mentions c.loop-before.touch facet) _ (filter_map (mention_of facet) (committed j)) (filter_map (mention_of facet) (above j n))
          (mention_of facet (record { number = n; change = change })) (w.in_ok-note.ensures.ok facet) so_far)
      | in_default w ↦
          let there = some_change j n numbered (omega (arith, over, c.requires.told)) (omega (arith, c.last_change-before-end.ensures.exact)) in
          cc (w.in_default.ensures.exact over, there.1)
    ]

pub returns : goal.returns
returns c facet =
    let j = c.args.history.now.journal in
    let none = above-past j c.loop-before.before c.last_change-before-end.ensures.numbered (omega (arith, c.last_change-before-end.ensures.exact)) in
    sym (append-nil (mentions c.loop-before.touch facet))
    ∙ ap (λ cs. mentions c.loop-before.touch facet ++ filter_map (mention_of facet) cs) (sym none)
    ∙ c.loop-before.invariant facet
