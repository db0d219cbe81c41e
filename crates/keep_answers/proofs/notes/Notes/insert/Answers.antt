use Rattle.std.proofs.Common.{Some, string_bytes, ◌∙◌, ap}
use Rattle.std.proofs.Math.Path.{fun_ext}
use Rattle.std.proofs.lemmas.Map.Text.{btree_map_updates_text}
use Rattle.keep_answers.specs.State.{noted_under, notes_of}
use Rattle.keep_answers.proofs.notes.Notes.insert.Goals as goal

pub returns-clause-ok : goal.returns-clause-ok
returns-clause-ok c = fun_ext (λ name.
    btree_map_updates_text (string_bytes c.in_ok-key.key) c.args.self.now.held c.insert.new.self (Some c.args.repo) c.in_ok-insert.ensures.updates name
    ∙ ap (λ bs. noted_under bs c.args.repo (notes_of c.args.self.now) name) c.in_ok-key.ensures.ok)
