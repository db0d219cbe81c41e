-- Vetoes and watches, without the questions that they are stored with.
use Rattle.std.specs.Prelude.{ℕ, List, map, string_bytes}
use Rattle.keep_hooks.specs.Guards.{ArmedData, HooksData, Rule, Tally, WatchData}
use Rattle.keep_hooks.specs.declared.armed_watch.ArmedWatch.{ArmedWatch}
use Rattle.keep_hooks.specs.declared.veto.Veto.{Veto}
use Rattle.keep_hooks.specs.declared.watch.Watch.{Watch}

abbrev pub rule_of : {I F g : _} → Veto I F g → Rule
rule_of veto = record { name = string_bytes veto.name; limit = veto.rule }

-- those of the vetoes, in their order
abbrev pub rules_of : {I F g : _} → List (Veto I F g) → List Rule
rules_of vetoes = map rule_of vetoes

abbrev pub watch_of : {I F g : _} → Watch I F g → WatchData
watch_of watch = record { name = string_bytes watch.name; measure = watch.rule }

-- those of the watches, in their order
abbrev pub watches_of : {I F g : _} → List (Watch I F g) → List WatchData
watches_of watches = map watch_of watches

-- the watch, armed at this length of the history
abbrev pub armed_at : ℕ → WatchData → ArmedData
armed_at since watch = record { name = watch.name; measure = watch.measure; since = since }

abbrev pub armed_of : {I F g : _} → ArmedWatch I F g → ArmedData
armed_of armed = armed_at armed.since (watch_of armed.watch)

abbrev pub tally_of : {I F g : _} → ArmedWatch I F g → Tally
tally_of armed = record { name = string_bytes armed.watch.name; measure = armed.watch.rule; total = armed.total }

-- those of the armed watches, in their order
abbrev pub tallies_of : {I F g : _} → List (ArmedWatch I F g) → List Tally
tallies_of watches = map tally_of watches

-- what is armed
abbrev pub hooks_data : {I F g J E h : _} → List (Veto I F g) → List (ArmedWatch J E h) → HooksData
hooks_data vetoes watches = record { vetoes = rules_of vetoes; watches = map armed_of watches }
