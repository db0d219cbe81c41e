use Rattle.std.proofs.Common.{◌≡◌, ◌∙◌, ap, map, rules, string_bytes}
use Rattle.keep_jobs.specs.Kits.{named_rule}
use Rattle.keep_command.proofs.StoredLemmas.{are-filters, ends-by}
use Rattle.keep_command.proofs.UntouchedLemmas.{refused-untouched}
use Rattle.keep_options.specs.Option.{options_view}
use Rattle.keep_command.specs.Running.{stored_filters}
use Rattle.keep_command.specs.NamedShelf.{shelved_of}
use Rattle.keep_command.proofs.program.answer.Goals as goal

pub returns-clause-ends : goal.returns-clause-ends
returns-clause-ends g c =
    let host = c.in_ok-clone.field-0 in
    let tag = c.in_ok-clone-2.field-0 in
    let rows = are-filters (string_bytes c.new-all.result.name) (string_bytes c.new-by_host.result.name) (string_bytes c.new-by_tag.result.name) c.new-all.result.rule c.new-by_host.result.rule c.new-by_tag.result.rule host tag
    (ap string_bytes c.new-all.ensures.name ∙ c.in_ok-from_str.ensures.ok) c.new-all.ensures.rule
    (ap string_bytes c.new-by_host.ensures.name ∙ c.in_ok-from_str-2.ensures.ok) c.new-by_host.ensures.rule
    (ap string_bytes c.new-by_tag.ensures.name ∙ c.in_ok-from_str-3.ensures.ok) c.new-by_tag.ensures.rule in
    let same : map named_rule c.in_ok-filters.filters.items ≡ stored_filters host tag = ap (λ filters. map named_rule filters) c.in_ok-filters.ensures.items ∙ rows in
    ends-by shelved_of (g.H.Shelves.gives c.args.shelves.now) (g.H.Shelves.takes c.args.shelves.now) (g.C.Crew.answers c.args.crew.now) c.answer_with.result (options_view c.args.terms.options) (map named_rule c.in_ok-filters.filters.items) host tag
    (g.R.Read.remaining c.args.reader.now) (g.R.Read.remaining c.answer_with.new.reader) (g.W.Write.contents c.args.writer.now) (g.W.Write.contents c.answer_with.new.writer)
    (search rules) (search rules) same c.answer_with.ensures.ends

pub returns-in_err-new-3-clause-untouched : goal.returns-in_err-new-3-clause-untouched
returns-in_err-new-3-clause-untouched g c =
    refused-untouched c.from_residual-in_err-new-3.result (g.R.Read.remaining c.args.reader.now) (g.W.Write.contents c.args.writer.now)

pub returns-in_err-from_str-3-clause-untouched : goal.returns-in_err-from_str-3-clause-untouched
returns-in_err-from_str-3-clause-untouched g c =
    refused-untouched c.from_residual-in_err-from_str-3.result (g.R.Read.remaining c.args.reader.now) (g.W.Write.contents c.args.writer.now)
