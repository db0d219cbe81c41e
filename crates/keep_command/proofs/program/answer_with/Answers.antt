use Rattle.std.proofs.Common.{◌≡◌, ◌∙◌, List, ap, ap₂, map, string_bytes, subst}
use Rattle.keep_hooks.specs.Guards.{Rule, WatchData}
use Rattle.keep_jobs.specs.Kits.{KitData, named_rule}
use Rattle.keep_hooks.specs.Rules.{rule_of, watch_of}
use Rattle.keep_hooks.specs.declared.limit.Limit.TheVariants.{SnapshotDropsAtMost}
use Rattle.keep_command.proofs.StoredLemmas.{are-vetoes, are-watches}
use Rattle.keep_command.specs.Following.{EndsWith}
use Rattle.keep_options.specs.Option.{options_view}
use Rattle.keep_command.specs.Running.{stored_vetoes, stored_watches}
use Rattle.keep_command.specs.NamedShelf.{shelved_of}
use Rattle.keep_command.proofs.program.answer_with.Goals as goal

pub returns-clause-ends : goal.returns-clause-ends
returns-clause-ends g c =
    let options = options_view c.args.terms.options in
    let vetoes : map rule_of c.in_ok-vec.field-0.items ≡ stored_vetoes c.args.terms.options.drops =
    ap (λ vetoes. map rule_of vetoes) c.in_ok-vec.ensures.items
    ∙ are-vetoes (string_bytes c.new-few_drops.result.name) (string_bytes c.new-no_empty.result.name) c.new-few_drops.result.rule c.new-no_empty.result.rule c.args.terms.options.drops
    (ap string_bytes c.new-few_drops.ensures.name ∙ c.in_ok-name.ensures.ok) (c.new-few_drops.ensures.rule ∙ ap SnapshotDropsAtMost c.from-most.ensures)
    (ap string_bytes c.new-no_empty.ensures.name ∙ c.in_ok-from_str.ensures.ok) c.new-no_empty.ensures.rule in
    let watches : map watch_of c.in_ok-vec-2.field-0.items ≡ stored_watches =
    ap (λ watches. map watch_of watches) c.in_ok-vec-2.ensures.items
    ∙ are-watches (string_bytes c.new-events.result.name) (string_bytes c.new-files.result.name) c.new-events.result.rule c.new-files.result.rule
    (ap string_bytes c.new-events.ensures.name ∙ c.in_ok-from_str-2.ensures.ok) c.new-events.ensures.rule
    (ap string_bytes c.new-files.ensures.name ∙ c.in_ok-from_str-3.ensures.ok) c.new-files.ensures.rule in
    let filters = map named_rule c.args.filters.items in
    let kit = ap₂ (λ (v : List Rule) (w : List WatchData). record { filters = filters; vetoes = v; watches = w }) vetoes watches in (
      subst
          (λ (k : KitData). EndsWith shelved_of (g.H.Shelves.gives c.args.shelves.now) (g.H.Shelves.takes c.args.shelves.now) (g.C.Crew.answers c.args.crew.now) k options (g.R.Read.remaining c.args.reader.now) (g.R.Read.remaining c.serve.new.reader)
          (g.W.Write.contents c.args.writer.now) (g.W.Write.contents c.serve.new.writer) c.serve.result)
          kit c.serve.ensures.ends,
      c.serve.ensures.lines,
    )
