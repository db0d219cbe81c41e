use Rattle.keep_keyed_folder.proofs.Course.{removed, removing_failed}
use Rattle.keep_keyed_folder.proofs.sound_files.SoundFiles.remove.Goals as goal

pub returns-in_err-remove-clause-stops : goal.returns-in_err-remove-clause-stops
returns-in_err-remove-clause-stops g c =
    let seen = g.T.FileTree.seen in
    let s0 = seen c.args.self.now.tree in
    let s1 = seen c.remove.new.self in
    let path = c.args.path.now in
    removing_failed s0 s1 path _ c.in_err-remove.ensures.err

pub returns-clause-stops : goal.returns-clause-stops
returns-clause-stops g c =
    let seen = g.T.FileTree.seen in
    let s0 = seen c.args.self.now.tree in
    let s1 = seen c.remove.new.self in
    let s2 = seen c.sync_holder.new.self.tree in
    let path = c.args.path.now in
    removed s0 s1 s2 path c.sync_holder.new.self.is_sound c.in_ok-remove.ensures.ok c.sync_holder.ensures.stands (c.sync_holder.ensures.synced c.requires.sound)
