use Rattle.std.proofs.Common.{◌≡◌, None, Some, sym, ap, ◌∙◌}
use Rattle.std.proofs.lemmas.Result.{err_from_is_err_and}
use Rattle.std.specs.FinMap as map
use Rattle.keep_repo.proofs.Hashed.{differs_hashed, get_hashed}
use Rattle.keep_shelf.proofs.Hashed.{same_as_order}
use Rattle.keep_shelf.proofs.Orders.{key_total}
use Rattle.keep_shelf.proofs.Stocked.{entry_differs, file_differs, get_entry, get_file, put_there, still_none}
use Rattle.keep_shelf.specs.Shelved.{Content}
use Rattle.keep_shelf.specs.Stocked.{files_and_entries}
use Rattle.keep_shelf.specs.declared.key.Key.TheVariants.{Entry}
use Rattle.keep_shelf.proofs.stock.Stock.write.Goals as goal

pub returns-in_ok-insert-in-Entry-clause-was : goal.returns-in_ok-insert-in-Entry-clause-was
returns-in_ok-insert-in-Entry-clause-was c =
    let files = c.self.inside.files.entries in
    let entries = c.self.inside.entries.entries in
    c.in_ok-insert-in-Entry.ensures.old
    ∙ sym (get_entry files entries c.self.invariant c.in-Entry.at)
    ∙ ap (map.get (files_and_entries files entries)) (sym c.in-Entry.is)
    ∙ ap (λ (content : Content). map.get content c.args.key) c.self.view_is

pub returns-in_ok-insert-in-Entry-clause-ok : goal.returns-in_ok-insert-in-Entry-clause-ok
returns-in_ok-insert-in-Entry-clause-ok c =
    let files = c.self.inside.files.entries in
    let entries = c.self.inside.entries.entries in
    put_there (files_and_entries files entries) (files_and_entries files c.insert.new.self.entries) (Entry c.in-Entry.at) c.args.bytes
    (entry_differs files c.self.invariant entries c.insert.new.self.entries c.in-Entry.at (Some c.args.bytes) c.in_ok-insert-in-Entry.ensures.updates.0)
    ∙ ap (λ key. map.insert (files_and_entries files entries) key c.args.bytes) (sym c.in-Entry.is)
    ∙ ap (λ (content : Content). map.insert content c.args.key c.args.bytes) c.self.view_is

pub returns-in_err-insert-in-Entry-clause-absent : goal.returns-in_err-insert-in-Entry-clause-absent
returns-in_err-insert-in-Entry-clause-absent c =
    let files = c.self.inside.files.entries in
    let entries = c.self.inside.entries.entries in
    let failed = err_from_is_err_and c.from_residual.result c.from_residual.ensures.1 in
    let absent : map.get c.args.self.now c.args.key ≡ None =
    ap (λ (content : Content). map.get content c.args.key) (sym c.self.view_is)
    ∙ ap (map.get (files_and_entries files entries)) c.in-Entry.is
    ∙ get_entry files entries c.self.invariant c.in-Entry.at
    ∙ c.in_err-insert-in-Entry.ensures.absent in
    rw failed.1 absent

pub returns-in_ok-insert-in_default : goal.returns-in_ok-insert-in_default
returns-in_ok-insert-in_default c =
    let files = c.self.inside.files.entries in
    let entries = c.self.inside.entries.entries in
    let new = c.insert-in_default.new.self.entries in
    record {
      was =
          c.in_ok-insert-in_default.ensures.old
          ∙ sym (get_hashed key_total same_as_order files c.args.key)
          ∙ sym (get_file files entries c.args.key c.in_default.not-Entry)
          ∙ ap (λ (content : Content). map.get content c.args.key) c.self.view_is;
      ok =
          put_there (files_and_entries files entries) (files_and_entries new entries) c.args.key c.args.bytes
          (file_differs files new c.args.key (Some c.args.bytes) c.in_default.not-Entry
          (differs_hashed key_total same_as_order files new c.args.key (Some c.args.bytes) c.in_ok-insert-in_default.ensures.updates.0) c.self.invariant entries)
          ∙ ap (λ (content : Content). map.insert content c.args.key c.args.bytes) c.self.view_is;
      err = tt;
      absent = tt;
    }

pub invariant_of-self-in_default : goal.invariant_of-self-in_default
invariant_of-self-in_default c =
    let files = c.self.inside.files.entries in
    let new = c.insert-in_default.new.self.entries in
    still_none files new c.args.key (Some c.args.bytes) c.in_default.not-Entry
    (differs_hashed key_total same_as_order files new c.args.key (Some c.args.bytes) c.in_ok-insert-in_default.ensures.updates.0) c.self.invariant

pub returns-in_err-insert-in_default : goal.returns-in_err-insert-in_default
returns-in_err-insert-in_default c =
    let files = c.self.inside.files.entries in
    let entries = c.self.inside.entries.entries in
    let failed = err_from_is_err_and c.from_residual-in_err-insert-in_default.result c.from_residual-in_err-insert-in_default.ensures.1 in
    let same : files_and_entries c.insert-in_default.new.self.entries entries ≡ c.args.self.now =
    ap (λ es. files_and_entries es entries) c.in_err-insert-in_default.ensures.err ∙ c.self.view_is in
    let absent : map.get c.args.self.now c.args.key ≡ None =
    ap (λ (content : Content). map.get content c.args.key) (sym c.self.view_is)
    ∙ get_file files entries c.args.key c.in_default.not-Entry
    ∙ get_hashed key_total same_as_order files c.args.key
    ∙ c.in_err-insert-in_default.ensures.absent in
    rw failed.1 (record { was = tt; ok = tt; err = same; absent = absent })
