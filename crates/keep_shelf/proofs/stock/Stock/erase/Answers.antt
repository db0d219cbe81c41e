use Rattle.std.proofs.Common.{◌≡◌, None, sym, ap, ◌∙◌}
use Rattle.std.specs.FinMap as map
use Rattle.keep_repo.proofs.Hashed.{differs_hashed}
use Rattle.keep_shelf.proofs.Hashed.{same_as_order}
use Rattle.keep_shelf.proofs.Orders.{key_total}
use Rattle.keep_shelf.proofs.Stocked.{entry_differs, file_differs, still_none, taken_away}
use Rattle.keep_shelf.specs.Shelved.{Content}
use Rattle.keep_shelf.specs.Stocked.{files_and_entries}
use Rattle.keep_shelf.specs.declared.key.Key.TheVariants.{Entry}
use Rattle.keep_shelf.proofs.stock.Stock.erase.Goals as goal
use Rattle.keep_shelf.proofs.stock.Stock.erase.Goals.{in-Some-2, in-None-2}

pub returns-in-Entry : goal.returns-in-Entry
returns-in-Entry c =
    let files = c.self.inside.files.entries in
    let entries = c.self.inside.entries.entries in
    let left : c.match-remove.self ≡ files_and_entries files c.remove.new.self.entries =
    elim c.match-remove.branch [ in-Some-2 w ↦ w.self-is | in-None-2 w ↦ w.self-is ] in
    left
    ∙ taken_away (files_and_entries files entries) (files_and_entries files c.remove.new.self.entries) (Entry c.in-Entry.at)
    (entry_differs files c.self.invariant entries c.remove.new.self.entries c.in-Entry.at None c.remove.ensures.updates.0)
    ∙ ap (map.remove (files_and_entries files entries)) (sym c.in-Entry.is)
    ∙ ap (λ (content : Content). map.remove content c.args.key) c.self.view_is

pub invariant_of-self-in_default : goal.invariant_of-self-in_default
invariant_of-self-in_default c =
    let files = c.self-in_default.inside.files.entries in
    let new = c.swap_remove.new.self.entries in
    still_none files new c.args.key None c.in_default.not-Entry
    (differs_hashed key_total same_as_order files new c.args.key None c.swap_remove.ensures.updates.0) c.self-in_default.invariant

pub returns-in_default : goal.returns-in_default
returns-in_default c =
    let files = c.self-in_default.inside.files.entries in
    let entries = c.self-in_default.inside.entries.entries in
    let new = c.swap_remove.new.self.entries in
    c.give_back.ensures
    ∙ taken_away (files_and_entries files entries) (files_and_entries new entries) c.args.key
    (file_differs files new c.args.key None c.in_default.not-Entry
    (differs_hashed key_total same_as_order files new c.args.key None c.swap_remove.ensures.updates.0) c.self-in_default.invariant entries)
    ∙ ap (λ (content : Content). map.remove content c.args.key) c.self-in_default.view_is
