use Rattle.std.proofs.Common.{map}
use Rattle.keep_options.specs.Option.{OptionsData, options_of, options_view}
use Rattle.keep_command.proofs.UntouchedLemmas.{by-given, nothing-done, without-memory}
use Rattle.keep_command.specs.Following.{EndsBy}
use Rattle.keep_command.specs.NamedShelf.{shelved_of}
use Rattle.keep_command.proofs.program.keepd.Goals as goal

pub returns-in-Ok-clause-answers : goal.returns-in-Ok-clause-answers
returns-in-Ok-clause-answers g c =
    by-given
    (λ (o : OptionsData). EndsBy shelved_of (g.H.Shelves.gives c.args.shelves.now) (g.H.Shelves.takes c.args.shelves.now) (g.C.Crew.answers c.args.crew.now) o
    (g.R.Read.remaining c.args.reader.now) (g.R.Read.remaining c.answer_by.new.reader)
    (g.W.Write.contents c.args.writer.now) (g.W.Write.contents c.answer_by.new.writer) c.answer_by.result)
    (options_of (map (λ word. word.now) c.args.words.now)) (options_view c.in-Ok.options) (options_view c.new.result.options)
    c.in-Ok.ensures.given c.new.ensures c.answer_by.ensures.ends

pub returns-in-Err-Memory-clause-answers : goal.returns-in-Err-Memory-clause-answers
returns-in-Err-Memory-clause-answers g c =
    without-memory shelved_of (g.H.Shelves.gives c.args.shelves.now) (g.H.Shelves.takes c.args.shelves.now) (g.C.Crew.answers c.args.crew.now)
    (options_of (map (λ word. word.now) c.args.words.now)) (g.R.Read.remaining c.args.reader.now) _ (g.W.Write.contents c.args.writer.now) _ (nothing-done _ _)
