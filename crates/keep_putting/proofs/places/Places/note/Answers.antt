use Rattle.std.proofs.Common.{◌∙◌, ℕ, List, ap, string_bytes}
use Rattle.keep_putting.proofs.Folders.{noted}
use Rattle.keep_putting.specs.Made.{folders_in}
use Rattle.keep_putting.specs.Places.{placed}
use Rattle.keep_putting.proofs.places.Places.note.Goals as goal

pub returns-clause-ok : goal.returns-clause-ok
returns-clause-ok c =
    let path = c.in_ok-path.path in
    noted c.args.self.now.folders c.insert.new.self (string_bytes path) c.args.place c.in_ok-insert.ensures.updates
    ∙ ap (λ (p : List ℕ). placed (folders_in c.args.self.now) p (string_bytes c.args.place)) c.in_ok-path.ensures.ok
