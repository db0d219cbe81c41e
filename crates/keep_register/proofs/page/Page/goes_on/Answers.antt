use Rattle.std.proofs.Common.{◌≤◌, List, length, ap, arith, subst}
use Rattle.std.proofs.lemmas.Bool.{leb-true}
use mathlib.Core.List.{IsPrefix}
use Rattle.keep_chronicle.specs.Chronicle.{events_of}
use Rattle.keep_chronicle.specs.declared.note.Note.{Note}
use Rattle.keep_chronicle.proofs.Events.{events_begin}
use Rattle.keep_chronicle.proofs.Prefixes.{prefix_shorter}
use Rattle.keep_register.specs.Pages.{PageState}
use Rattle.keep_register.proofs.page.Page.goes_on.Goals as goal

pub returns : goal.returns
returns c shorter =
    let both = c.learn.new.self.log in
    let all = c.args.self.now.log in
    let mine : IsPrefix c.self.inside.sight.log both =
    subst (λ (l : List Note). IsPrefix l both) (ap (λ s. s.log) c.again-both.ensures) c.learn.ensures.2 in
    let page : IsPrefix all both = subst (λ (l : List Note). IsPrefix l both) (ap (λ (p : PageState). p.log) c.self.view_is) mine in
    let le : c.args.total ≤ c.length.result = leb-true c.args.total c.length.result shorter in
    let counted = c.requires.counted in
    let less : length (events_of c.args.sight.now.log) ≤ length (events_of all) =
    omega (arith, le, counted.1, counted.2, c.length.ensures) in
    prefix_shorter (events_of c.args.sight.now.log) (events_of all) (events_of both)
    (events_begin c.args.sight.now.log both c.learn.ensures.3) (events_begin all both page) less
