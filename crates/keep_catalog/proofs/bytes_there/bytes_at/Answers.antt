use Rattle.std.proofs.Common.{ap, ◌∙◌}
use Rattle.std.specs.FinMap as finite
use Rattle.keep_catalog.proofs.Slices.{no_bytes, some_bytes}
use Rattle.keep_catalog.proofs.bytes_there.bytes_at.Goals as goal

pub returns-in_default : goal.returns-in_default
returns-in_default c = no_bytes c.args.repo.now c.args.spot (c.in_default.ensures ∙ ap (finite.get c.args.repo.now.files) c.pack.ensures)

pub returns : goal.returns
returns c =
    c.slice_of.ensures
    ∙ some_bytes c.args.repo.now c.args.spot c.in-Some.bytes.now c.as_slice.result.now (c.in-Some.ensures ∙ ap (finite.get c.args.repo.now.files) c.pack.ensures) c.as_slice.ensures
