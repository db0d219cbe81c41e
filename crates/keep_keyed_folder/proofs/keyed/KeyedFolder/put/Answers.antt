use Rattle.std.proofs.Common.{ap}
use Rattle.keep_keyed_folder.proofs.Content.{put_content, put_stops}
use Rattle.keep_keyed_folder.proofs.keyed.KeyedFolder.put.Goals as goal

pub returns-clause-content : goal.returns-clause-content
returns-clause-content g c = λ content held.
    let seen = g.T.FileTree.seen in
    let stands = λ (t : g.row.T.Denot). (seen t).stands in
    let before = stands c.args.self.now.files.tree in
    let left = stands c.put-done.new.self.tree in
    let after = stands c.heed.new.self.tree in
    put_content c.put-done.result c.heed.result before left after c.args.path.now.key c.as_str-2.result.now c.args.bytes.now c.as_str.result.now _ content
    c.heed.ensures.answer (ap stands c.heed.ensures.tree) c.as_str-2.ensures c.as_str.ensures.value c.args.self.now.is_tmp c.key_is_sized.ensures c.put-done.ensures.left held

pub returns-clause-stops : goal.returns-clause-stops
returns-clause-stops g c = λ content held.
    let seen = g.T.FileTree.seen in
    let before = seen c.args.self.now.files.tree in
    let left = seen c.put-done.new.self.tree in
    let after = seen c.heed.new.self.tree in
    put_stops before left after c.args.path.now.key c.as_str-2.result.now c.args.bytes.now c.as_str.result.now _ content
    (ap seen c.heed.ensures.tree) c.as_str-2.ensures c.as_str.ensures.value c.args.self.now.is_tmp c.key_is_sized.ensures c.put-done.ensures.stops held
