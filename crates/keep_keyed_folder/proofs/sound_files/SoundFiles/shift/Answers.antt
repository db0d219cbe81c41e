use Rattle.std.proofs.Common.{◌≡◌, ◌∙◌, IsTrue, ap, subst, sym}
use Rattle.keep_files.specs.Act.{Renamed, Seen}
use Rattle.keep_files.specs.Stands.{IsClosed, is_file}
use Rattle.keep_keyed_folder.proofs.Acts.{closed_done, closed_failed, synced_two, shift_acts}
use Rattle.keep_keyed_folder.proofs.Course.{InShift, holders_synced, shift_begun, shifted_over, shifting_failed}
use Rattle.keep_keyed_folder.proofs.Stopping.{keeps_end, keeps_synced, keeps_then}
use Rattle.keep_keyed_folder.proofs.Left.{ends_undone, file_stays, handed_on, shift_ends, shift_failed}
use Rattle.keep_keyed_folder.specs.declared.sound_files.SoundFiles.{SoundFiles}
use Rattle.keep_keyed_folder.proofs.sound_files.SoundFiles.shift.Goals as goal

pub rename-requires-clause-file : goal.rename-requires-clause-file
rename-requires-clause-file g c =
    let seen = g.T.FileTree.seen in
    let s0 = seen c.args.self.now.tree in
    let s1 = seen c.make_home.new.self.tree in
    let from = c.args.from.now in
    let to = c.args.to.now in
    let still : s1.stands from ≡ s0.stands from = file_stays s0.stands s1.stands to from c.requires.file c.in_ok-make_home.ensures.left in
    subst (λ n. IsTrue (is_file n)) (sym still) c.requires.file

pub returns-in_err-make_home-clause-closed : goal.returns-in_err-make_home-clause-closed
returns-in_err-make_home-clause-closed g c = c.in_err-make_home.ensures.closed

pub returns-in_err-make_home-clause-left : goal.returns-in_err-make_home-clause-left
returns-in_err-make_home-clause-left g c = ends_undone _ _ _ _ c.from_residual.ensures.0 c.in_err-make_home.ensures.left

pub returns-in_err-rename-clause-closed : goal.returns-in_err-rename-clause-closed
returns-in_err-rename-clause-closed g c =
    let seen = g.T.FileTree.seen in
    let s1 = seen c.make_home.new.self.tree in
    let s2 = seen c.rename.new.self in
    let from = c.args.from.now in
    let to = c.args.to.now in
    closed_failed s1 s2 (Renamed from to) _ c.in_err-rename.ensures.err c.in_ok-make_home.ensures.closed

pub returns-in_err-rename-clause-left : goal.returns-in_err-rename-clause-left
returns-in_err-rename-clause-left g c =
    let seen = g.T.FileTree.seen in
    let s0 = seen c.args.self.now.tree in
    let s1 = seen c.make_home.new.self.tree in
    let s2 = seen c.rename.new.self in
    let from = c.args.from.now in
    let to = c.args.to.now in
    let still : s1.stands from ≡ s0.stands from = file_stays s0.stands s1.stands to from c.requires.file c.in_ok-make_home.ensures.left in
    shift_failed _ _ s0.stands s1 s2 from to _ (handed_on _ _ _ c.from_residual-in_err-rename.ensures.1) c.requires.apart c.in_ok-make_home.ensures.left still c.in_err-rename.ensures.err

pub returns-clause-closed : goal.returns-clause-closed
returns-clause-closed g c =
    let seen = g.T.FileTree.seen in
    let s1 = seen c.make_home.new.self.tree in
    let s2 = seen c.rename.new.self in
    let from = c.args.from.now in
    let to = c.args.to.now in
    subst IsClosed (sym (c.sync_holder-2.ensures.stands ∙ c.sync_holder.ensures.stands)) (closed_done s1 s2 (Renamed from to) c.in_ok-rename.ensures.can c.in_ok-rename.ensures.ok c.in_ok-make_home.ensures.closed)

pub returns-clause-left : goal.returns-clause-left
returns-clause-left g c =
    let seen = g.T.FileTree.seen in
    let s0 = seen c.args.self.now.tree in
    let s1 = seen c.make_home.new.self.tree in
    let s2 = seen c.rename.new.self in
    let s4 = seen c.sync_holder-2.new.self.tree in
    let from = c.args.from.now in
    let to = c.args.to.now in
    let still : s1.stands from ≡ s0.stands from = file_stays s0.stands s1.stands to from c.requires.file c.in_ok-make_home.ensures.left in
    shift_ends s0.stands s1.stands s4.stands from to c.requires.apart c.in_ok-make_home.ensures.left still (c.sync_holder-2.ensures.stands ∙ c.sync_holder.ensures.stands ∙ ap (λ (s : Seen). s.stands) c.in_ok-rename.ensures.ok)

pub returns-clause-order : goal.returns-clause-order
returns-clause-order g c =
    let seen = g.T.FileTree.seen in
    let s0 = seen c.args.self.now.tree in
    let s1 = seen c.make_home.new.self.tree in
    let s2 = seen c.rename.new.self in
    let s3 = seen c.sync_holder.new.self.tree in
    let s4 = seen c.sync_holder-2.new.self.tree in
    let from = c.args.from.now in
    let to = c.args.to.now in
    let made = c.in_ok-make_home.ensures.order in
    let acts = λ (s : Seen). s.acts in
    let first = c.sync_holder.ensures.synced c.in_ok-make_home.ensures.still_sound in
    let synced = synced_two s2.acts s3.acts s4.acts to from c.sync_holder.new.self.is_sound c.sync_holder-2.new.self.is_sound first (λ unsound. (ap (λ (f : SoundFiles g.row.T.Denot). (seen f.tree).acts) (c.sync_holder-2.ensures.unsound unsound), ap (λ (f : SoundFiles g.row.T.Denot). f.is_sound) (c.sync_holder-2.ensures.unsound unsound))) c.sync_holder-2.ensures.synced in
    record {
      made = made.0;
      synced = synced.0;
      making = made.1;
      holders_synced = synced.1;
      acts = shift_acts s0.acts s1.acts s2.acts s4.acts made.0 synced.0 (Renamed from to) made.2 (ap acts c.in_ok-rename.ensures.ok) synced.2;
    }

pub returns-in_err-make_home-clause-stops : goal.returns-in_err-make_home-clause-stops
returns-in_err-make_home-clause-stops g c =
    let seen = g.T.FileTree.seen in
    let s0 = seen c.args.self.now.tree in
    let s1 = seen c.make_home.new.self.tree in
    let from = c.args.from.now in
    let to = c.args.to.now in
    shift_begun s0 s1 from to c.in_err-make_home.ensures.stops

pub returns-in_err-rename-clause-stops : goal.returns-in_err-rename-clause-stops
returns-in_err-rename-clause-stops g c =
    let seen = g.T.FileTree.seen in
    let s0 = seen c.args.self.now.tree in
    let s1 = seen c.make_home.new.self.tree in
    let s2 = seen c.rename.new.self in
    let from = c.args.from.now in
    let to = c.args.to.now in
    let still : s1.stands from ≡ s0.stands from = file_stays s0.stands s1.stands to from c.requires.file c.in_ok-make_home.ensures.left in
    shifting_failed s0 s1 s2 from to _ c.in_ok-make_home.ensures.stops c.requires.apart still c.in_err-rename.ensures.err

pub returns-clause-stops : goal.returns-clause-stops
returns-clause-stops g c =
    let seen = g.T.FileTree.seen in
    let s0 = seen c.args.self.now.tree in
    let s1 = seen c.make_home.new.self.tree in
    let s2 = seen c.rename.new.self in
    let s3 = seen c.sync_holder.new.self.tree in
    let s4 = seen c.sync_holder-2.new.self.tree in
    let from = c.args.from.now in
    let to = c.args.to.now in
    let still : s1.stands from ≡ s0.stands from = file_stays s0.stands s1.stands to from c.requires.file c.in_ok-make_home.ensures.left in
    let over = shifted_over s0 s1 s2 from to c.in_ok-make_home.ensures.stops c.requires.apart still c.in_ok-rename.ensures.ok in
    let first = keeps_then (InShift s0.stands from to) s0 s2 s3 over
    (keeps_synced (InShift s0.stands from to) s2 s3 to c.sync_holder.new.self.is_sound (keeps_end (InShift s0.stands from to) s0 s2 over) c.sync_holder.ensures.stands (c.sync_holder.ensures.synced c.in_ok-make_home.ensures.still_sound)) in
    holders_synced (InShift s0.stands from to) s0 s3 s4 from c.sync_holder.new.self.is_sound c.sync_holder-2.new.self.is_sound first c.sync_holder-2.ensures.stands
    (λ unsound. ap (λ (f : SoundFiles g.row.T.Denot). (seen f.tree).acts) (c.sync_holder-2.ensures.unsound unsound)) c.sync_holder-2.ensures.synced
