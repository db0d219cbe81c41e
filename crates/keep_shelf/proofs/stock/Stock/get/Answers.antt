use Rattle.std.proofs.Common.{sym, ap, ◌∙◌}
use Rattle.std.specs.FinMap as map
use Rattle.keep_repo.proofs.Hashed.{get_hashed}
use Rattle.keep_shelf.proofs.Hashed.{same_as_order}
use Rattle.keep_shelf.proofs.Orders.{key_total}
use Rattle.keep_shelf.proofs.Stocked.{get_entry, get_file}
use Rattle.keep_shelf.specs.Shelved.{Content}
use Rattle.keep_shelf.specs.Stocked.{files_and_entries}
use Rattle.keep_shelf.proofs.stock.Stock.get.Goals as goal

pub returns-in-Entry : goal.returns-in-Entry
returns-in-Entry c =
    c.get.ensures.value
    ∙ sym (get_entry c.self.inside.files.entries c.self.inside.entries.entries c.self.invariant c.in-Entry.at)
    ∙ ap (map.get (files_and_entries c.self.inside.files.entries c.self.inside.entries.entries)) (sym c.in-Entry.is)
    ∙ ap (λ (content : Content). map.get content c.args.key) c.self.view_is

pub returns-in_default : goal.returns-in_default
returns-in_default c =
    c.get-in_default.ensures.value
    ∙ sym (get_hashed key_total same_as_order c.self.inside.files.entries c.args.key)
    ∙ sym (get_file c.self.inside.files.entries c.self.inside.entries.entries c.args.key c.in_default.not-Entry)
    ∙ ap (λ (content : Content). map.get content c.args.key) c.self.view_is
