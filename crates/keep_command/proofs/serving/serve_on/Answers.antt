use Rattle.std.proofs.Common.{ap, inl, inr, subst}
use Rattle.keep_shelf.specs.Shelved.{Shelved}
use Rattle.keep_options.specs.Option.{options_view}
use Rattle.keep_command.proofs.ServingLemmas.{is-unopened, keeps-refused, serves-opened}
use Rattle.keep_command.proofs.UntouchedLemmas.{nothing-done}
use Rattle.keep_command.specs.Left.{LeftShelf}
use Rattle.keep_command.specs.Stored.{stored_view}
use Rattle.keep_command.specs.NamedShelf.{shelved_of}
use Rattle.keep_command.proofs.serving.serve_on.Goals as goal

pub returns-in-Ok-clause-ends : goal.returns-in-Ok-clause-ends
returns-in-Ok-clause-ends g c =
    inl (serves-opened (g.H.Shelves.takes c.args.shelves.now) (g.C.Crew.answers c.args.crew.now) (shelved_of c.args.shelf)
    (stored_view c.args.stored) (options_view c.args.terms.options) c.in-Ok.book
    (g.R.Read.remaining c.args.reader.now) (g.R.Read.remaining c.serve_over.new.reader)
    (g.W.Write.contents c.args.writer.now) (g.W.Write.contents c.serve_over.new.writer) c.serve_over.result
    c.in-Ok.ensures.opened c.in-Ok.ensures.hooks c.serve_over.ensures.serves)

pub returns-in-Ok-clause-lines : goal.returns-in-Ok-clause-lines
returns-in-Ok-clause-lines g c = c.serve_over.ensures.lines

pub returns-in-Err-clause-ends : goal.returns-in-Err-clause-ends
returns-in-Err-clause-ends g c =
    let left = shelved_of c.in-Err.given.shelf in
    let after = shelved_of c.refused-ended.new.shelf in
    let takes = g.H.Shelves.takes c.args.shelves.now in
    let taken = subst (λ (shelf : Shelved). takes (LeftShelf shelf)) (ap shelved_of c.new.ensures) c.leave_unopened.ensures in
    inr (
      is-unopened takes (shelved_of c.args.shelf) left after c.in-Err.given.error c.refused-ended.result
          c.in-Err.ensures.refused c.in-Err.ensures.given c.refused-ended.ensures.told c.refused-ended.ensures.same c.refused-ended.ensures.unread taken,
      nothing-done (g.R.Read.remaining c.args.reader.now) (g.W.Write.contents c.args.writer.now),
    )

pub returns-in-Err-clause-lines : goal.returns-in-Err-clause-lines
returns-in-Err-clause-lines g c =
    keeps-refused (g.R.Read.remaining c.args.reader.now) (g.W.Write.contents c.args.writer.now) (shelved_of c.in-Err.given.shelf).content
    c.in-Err.given.error c.refused-ended.result c.refused-ended.ensures.told
