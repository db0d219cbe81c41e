use Rattle.std.proofs.Common.{ap}
use Rattle.keep_keyed_folder.proofs.Content.{shifted_content, shifted_stops}
use Rattle.keep_keyed_folder.proofs.keyed.KeyedFolder.shift.Goals as goal

pub returns-clause-content : goal.returns-clause-content
returns-clause-content g c = λ content held.
    let seen = g.T.FileTree.seen in
    let stands = λ (t : g.row.T.Denot). (seen t).stands in
    let before = stands c.args.self.now.files.tree in
    let left = stands c.shift-done.new.self.tree in
    let after = stands c.heed.new.self.tree in
    shifted_content c.shift-done.result c.heed.result before left after c.args.from.now.key c.args.to.now.key c.as_str.result.now c.as_str-2.result.now content
    c.heed.ensures.answer (ap stands c.heed.ensures.tree) c.as_str.ensures c.as_str-2.ensures c.key_is_sized.ensures c.key_is_sized-2.ensures c.requires.apart c.requires.filled c.shift-done.ensures.left held

pub returns-clause-stops : goal.returns-clause-stops
returns-clause-stops g c = λ content held.
    let seen = g.T.FileTree.seen in
    let before = seen c.args.self.now.files.tree in
    let left = seen c.shift-done.new.self.tree in
    let after = seen c.heed.new.self.tree in
    shifted_stops before left after c.args.from.now.key c.args.to.now.key c.as_str.result.now c.as_str-2.result.now content
    (ap seen c.heed.ensures.tree) c.as_str.ensures c.as_str-2.ensures c.key_is_sized.ensures c.key_is_sized-2.ensures c.requires.apart c.requires.filled c.shift-done.ensures.stops held
