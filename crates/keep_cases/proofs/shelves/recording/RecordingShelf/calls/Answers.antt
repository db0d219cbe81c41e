use Rattle.std.proofs.Common.{length, sym, ap, ◌∙◌}
use Rattle.keep_cases.proofs.Acting.{length-contents_after}
use Rattle.keep_shelf.specs.Shelved.{Shelved}
use Rattle.keep_cases.proofs.shelves.recording.RecordingShelf.calls.Goals as goal

pub returns : goal.returns
returns g c =
    c.len.ensures ∙ c.self.inside.acts.ok.0 ∙ sym (length-contents_after c.self.inside.made.content c.self.inside.acts.items)
    ∙ ap (λ (s : Shelved). length s.calls) c.self.view_is
