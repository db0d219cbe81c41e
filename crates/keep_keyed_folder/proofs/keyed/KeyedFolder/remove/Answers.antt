use Rattle.std.proofs.Common.{ap}
use Rattle.keep_keyed_folder.proofs.Content.{taken_content, taken_stops}
use Rattle.keep_keyed_folder.proofs.keyed.KeyedFolder.remove.Goals as goal

pub returns-clause-content : goal.returns-clause-content
returns-clause-content g c = λ content held.
    let seen = g.T.FileTree.seen in
    let stands = λ (t : g.row.T.Denot). (seen t).stands in
    let before = stands c.args.self.now.files.tree in
    let left = stands c.remove-done.new.self.tree in
    let after = stands c.heed.new.self.tree in
    taken_content c.remove-done.result c.heed.result before left after c.args.path.now.key c.as_str.result.now content
    c.heed.ensures.answer (ap stands c.heed.ensures.tree) c.as_str.ensures c.key_is_sized.ensures c.remove-done.ensures.left held

pub returns-clause-stops : goal.returns-clause-stops
returns-clause-stops g c = λ content held.
    let seen = g.T.FileTree.seen in
    let before = seen c.args.self.now.files.tree in
    let left = seen c.remove-done.new.self.tree in
    let after = seen c.heed.new.self.tree in
    taken_stops before left after c.args.path.now.key c.as_str.result.now content
    (ap seen c.heed.ensures.tree) c.as_str.ensures c.key_is_sized.ensures c.remove-done.ensures.stops held
