use Rattle.std.proofs.Common.{sym, ap, ◌∙◌, string_bytes}
use Rattle.std.specs.Option.{option_map}
use Rattle.keep_nodes.specs.Entries.{entry_view}
use Rattle.keep_backups.specs.Known.{known_view}
use Rattle.keep_backups.specs.Paths.{source_path}
use Rattle.keep_backups.proofs.KnownMaps.{node_put}
use Rattle.keep_backups.proofs.list.add.Goals as goal

pub returns : goal.returns
returns c path =
    node_put c.args.all.now c.insert.new.self c.in-Some-2.path c.in-Some.known (entry_view c.args.entry.now) path
    (ap (option_map string_bytes) (sym c.in-Some-2.is) ∙ c.in_ok-path.ensures ∙ ap source_path c.as_str.ensures.value)
    (ap (option_map known_view) (sym c.in-Some.is) ∙ c.in_ok-known.ensures)
    c.in_ok-insert.ensures.updates
