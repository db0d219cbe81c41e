-- What contracts see of what is stored for lines.
use Rattle.std.specs.Prelude.{map}
use Rattle.keep_hooks.specs.Rules.{rules_of, watches_of}
use Rattle.keep_jobs.specs.Kits.{KitData, named_rule}
use Rattle.keep_command.specs.declared.stored_questions.Stored.{Stored}

-- the kit that it makes, without the questions that it is stored with
abbrev pub stored_view : {I J K F G H f g h : _} → Stored I J K F G H f g h → KitData
stored_view stored = record {
  filters = map named_rule stored.filters.items;
  vetoes = rules_of stored.vetoes.items;
  watches = watches_of stored.watches.items;
}
