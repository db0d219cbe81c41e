use Rattle.std.proofs.Common.{◌≢◌, ◌∙◌, ℕ, List, IfErr, subst}
use Rattle.keep_entries.specs.Entry.{SaysNothing}
use Rattle.keep_entries.specs.declared.entry_error.EntryError.TheVariants.{Memory}
use Rattle.keep_entries.proofs.held_entry.read_entry_with.Goals as goal

pub returns-in_ok-bytes-in-None-clause-nothing : goal.returns-in_ok-bytes-in-None-clause-nothing
returns-in_ok-bytes-in-None-clause-nothing g c =
    let same = c.as_slice-in-None.ensures ∙ c.in_ok-bytes-in-None.ensures in
    subst (λ (bytes : List ℕ). IfErr c.read_entry.result (λ why. why ≢ Memory → SaysNothing c.args.k bytes)) same c.read_entry.ensures.nothing
