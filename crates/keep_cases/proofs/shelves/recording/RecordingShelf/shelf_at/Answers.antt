use Rattle.std.proofs.Common.{◌≡◌, ◌∷◌, ◌≤◌, List, length, take, sym, ap, ◌∙◌, arith}
use Rattle.std.specs.Prelude.{Some, slice_get}
use Rattle.std.proofs.lemmas.List.{length-take-le}
use Rattle.std.proofs.lemmas.Result.{IfOk-weaker}
use Rattle.keep_cases.proofs.Acting.{contents_after-at, length-contents_after}
use Rattle.keep_cases.specs.Acts.{content_after}
use Rattle.keep_shelf.specs.Shelved.{Content, Shelved}
use Rattle.keep_cases.specs.declared.shelves.act.Act.{Act}
use Rattle.keep_cases.proofs.shelves.recording.RecordingShelf.shelf_at.Goals as goal

pub slice_bounds-perform_all-end : goal.slice_bounds-perform_all-end
slice_bounds-perform_all-end g c =
    let s = c.self.inside in
    let same = ap (λ (xs : List Act). length xs) c.deref.ensures.value in
    let counted = length-contents_after s.made.content s.acts.items in
    let seen = ap (λ (shelf : Shelved). length shelf.calls) c.self.view_is in
    sym (length-take-le c.args.i c.deref.result.now (omega (arith, same, counted, seen, c.requires)))

pub returns : goal.returns
returns g c =
    let s = c.self.inside in
    let counted = length-contents_after s.made.content s.acts.items in
    let seen = ap (λ (shelf : Shelved). length shelf.calls) c.self.view_is in
    let within : c.args.i ≤ length s.acts.items = omega (arith, counted, seen, c.requires) in
    let copied : c.in_ok-copy.field-0.content ≡ s.made.content = ap (λ (shelf : Shelved). shelf.content) c.in_ok-copy.ensures in
    IfOk-weaker c.perform_all.result
    (λ (shelf : Shelved). shelf.content ≡ content_after c.in_ok-copy.field-0.content (take c.args.i c.deref.result.now))
    (λ (shelf : Shelved). slice_get (c.args.self.now.made ∷ c.args.self.now.calls) c.args.i ≡ Some shelf.content)
    (λ shelf is.
    ap (λ (seen : Shelved). slice_get (seen.made ∷ seen.calls) c.args.i) (sym c.self.view_is)
    ∙ contents_after-at s.made.content s.acts.items c.args.i within
    ∙ ap (λ (acts : List Act). Some (content_after s.made.content (take c.args.i acts))) (sym c.deref.ensures.value)
    ∙ ap (λ (content : Content). Some (content_after content (take c.args.i c.deref.result.now))) (sym copied)
    ∙ ap (λ (content : Content). Some content) (sym is))
    c.perform_all.ensures
