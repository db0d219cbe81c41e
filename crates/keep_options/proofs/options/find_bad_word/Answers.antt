use Rattle.std.proofs.Common.{◌-◌, ◌∙◌, ℕ, List, Bor, Err, ap, arith, subst, take}
use Rattle.std.proofs.lemmas.List.{length-map, take_all}
use Rattle.std.proofs.lemmas.Option.{slice_get-get_or}
use Rattle.keep_options.specs.Option.{options_of, options_view}
use Rattle.keep_options.specs.Reading.{Reads}
use Rattle.keep_options.proofs.BadWordLemmas.{texts, bad-word, none-one-fewer, some-beginning}
use Rattle.keep_options.proofs.options.find_bad_word.Goals as goal

pub loop-count-init : goal.loop-count-init
loop-count-init c = λ longer all.
    let counted = length-map c.args.words.now (λ (word : Bor (List ℕ)). word.now) in
    ap options_of (take_all longer (texts c.args.words.now) (omega (arith, counted, all))) ∙ c.requires

pub loop-count-preserved : goal.loop-count-preserved
loop-count-preserved c =
    let fewer : ℕ = c.loop-count.count - 1 in
    let refused = subst (λ error. Reads (texts (take fewer c.args.words.now)) (Err error)) c.in-Err-Refused.field-0-is c.in-Err-Refused.ensures.given in
    none-one-fewer c.args.words.now c.loop-count.count fewer (omega arith) refused c.loop-count.invariant

pub returns-in-Ok : goal.returns-in-Ok
returns-in-Ok c =
    let before : ℕ = c.loop-count.count - 1 in
    let stands = slice_get-get_or c.args.words.now before _ (omega arith) in
    bad-word c.args.words.now c.loop-count.count before _ (options_view c.in-Ok.field-0) stands (omega arith) c.in-Ok.ensures.given c.loop-count.invariant

pub returns : goal.returns
returns c = some-beginning _ c.loop-count.count (omega arith) c.loop-count.invariant
