use Rattle.std.proofs.Common.{◌≡◌, ◌∙◌, Some, None, ap, subst, sym}
use Rattle.keep_files.proofs.Kept.{put_at-here}
use Rattle.keep_files.specs.Act.{Removed, Renamed, Seen, Wrote}
use Rattle.keep_files.specs.Stands.{IsClosed, is_file}
use Rattle.keep_files.specs.declared.node.Node.TheVariants.{File}
use Rattle.keep_keyed_folder.proofs.Acts.{closed_done, closed_failed, put_acts}
use Rattle.keep_keyed_folder.proofs.Course.{cleared, clearing_failed, named, naming_failed, widened, writing_failed, written}
use Rattle.keep_keyed_folder.proofs.Left.{ends_undone, handed_on, left_removing, left_then, left_tmp, left_widened, left_writing, put_ends, put_failed}
use Rattle.keep_keyed_folder.proofs.sound_files.SoundFiles.put.Goals as goal

pub make_home-requires-clause-closed : goal.make_home-requires-clause-closed
make_home-requires-clause-closed g c =
    let seen = g.T.FileTree.seen in
    let s0 = seen c.args.self.now.tree in
    let s1 = seen c.remove.new.self in
    let path = c.args.path.now in
    let bytes = c.args.bytes.now in
    let tmp = c.args.tmp.now in
    let closed1 = closed_done s0 s1 (Removed tmp) c.in_ok-remove.ensures.can c.in_ok-remove.ensures.ok c.requires.closed in
    closed1

pub rename-requires-clause-file : goal.rename-requires-clause-file
rename-requires-clause-file g c =
    let seen = g.T.FileTree.seen in
    let s2 = seen c.make_home.new.self.tree in
    let s3 = seen c.write_new.new.self in
    let path = c.args.path.now in
    let bytes = c.args.bytes.now in
    let tmp = c.args.tmp.now in
    let there : s3.stands tmp ≡ Some (File bytes) = ap (λ (s : Seen). s.stands tmp) c.in_ok-write_new.ensures.ok ∙ put_at-here s2.stands tmp (Some (File bytes)) in
    ap is_file there

pub rename-requires-clause-apart : goal.rename-requires-clause-apart
rename-requires-clause-apart g c = λ e. c.requires.apart (sym e)

pub returns-in_err-remove-clause-closed : goal.returns-in_err-remove-clause-closed
returns-in_err-remove-clause-closed g c =
    let seen = g.T.FileTree.seen in
    let s0 = seen c.args.self.now.tree in
    let s1 = seen c.remove.new.self in
    let path = c.args.path.now in
    let bytes = c.args.bytes.now in
    let tmp = c.args.tmp.now in
    closed_failed s0 s1 (Removed tmp) _ c.in_err-remove.ensures.err c.requires.closed

pub returns-in_err-remove-clause-left : goal.returns-in_err-remove-clause-left
returns-in_err-remove-clause-left g c =
    let seen = g.T.FileTree.seen in
    let s0 = seen c.args.self.now.tree in
    let s1 = seen c.remove.new.self in
    let path = c.args.path.now in
    let bytes = c.args.bytes.now in
    let tmp = c.args.tmp.now in
    ends_undone _ _ _ _ c.from_residual.ensures.0 (left_removing s0 s1 path tmp _ c.in_err-remove.ensures.err)

pub returns-in_err-make_home-clause-closed : goal.returns-in_err-make_home-clause-closed
returns-in_err-make_home-clause-closed g c = c.in_err-make_home.ensures.closed

pub returns-in_err-make_home-clause-left : goal.returns-in_err-make_home-clause-left
returns-in_err-make_home-clause-left g c =
    let seen = g.T.FileTree.seen in
    let s0 = seen c.args.self.now.tree in
    let s1 = seen c.remove.new.self in
    let s2 = seen c.make_home.new.self.tree in
    let path = c.args.path.now in
    let bytes = c.args.bytes.now in
    let tmp = c.args.tmp.now in
    let left1 = left_tmp s0.stands s1.stands path tmp None (ap (λ (s : Seen). s.stands) c.in_ok-remove.ensures.ok) in
    ends_undone _ _ _ _ c.from_residual-in_err-make_home.ensures.0 (left_then s0.stands s1.stands s2.stands path tmp left1 (left_widened s1.stands s2.stands path tmp c.in_err-make_home.ensures.left))

pub returns-in_err-write_new-clause-closed : goal.returns-in_err-write_new-clause-closed
returns-in_err-write_new-clause-closed g c =
    let seen = g.T.FileTree.seen in
    let s2 = seen c.make_home.new.self.tree in
    let s3 = seen c.write_new.new.self in
    let path = c.args.path.now in
    let bytes = c.args.bytes.now in
    let tmp = c.args.tmp.now in
    closed_failed s2 s3 (Wrote tmp bytes) _ c.in_err-write_new.ensures.err c.in_ok-make_home.ensures.closed

pub returns-in_err-write_new-clause-left : goal.returns-in_err-write_new-clause-left
returns-in_err-write_new-clause-left g c =
    let seen = g.T.FileTree.seen in
    let s0 = seen c.args.self.now.tree in
    let s1 = seen c.remove.new.self in
    let s2 = seen c.make_home.new.self.tree in
    let s3 = seen c.write_new.new.self in
    let path = c.args.path.now in
    let bytes = c.args.bytes.now in
    let tmp = c.args.tmp.now in
    let left1 = left_tmp s0.stands s1.stands path tmp None (ap (λ (s : Seen). s.stands) c.in_ok-remove.ensures.ok) in
    let left2 = left_then s0.stands s1.stands s2.stands path tmp left1 (left_widened s1.stands s2.stands path tmp c.in_ok-make_home.ensures.left) in
    ends_undone _ _ _ _ c.from_residual-in_err-write_new.ensures.0 (left_then s0.stands s2.stands s3.stands path tmp left2 (left_writing s2 s3 path tmp bytes _ c.in_err-write_new.ensures.err))

pub returns-in_err-rename-clause-closed : goal.returns-in_err-rename-clause-closed
returns-in_err-rename-clause-closed g c =
    let seen = g.T.FileTree.seen in
    let s2 = seen c.make_home.new.self.tree in
    let s3 = seen c.write_new.new.self in
    let s4 = seen c.rename.new.self in
    let path = c.args.path.now in
    let bytes = c.args.bytes.now in
    let tmp = c.args.tmp.now in
    let closed3 = closed_done s2 s3 (Wrote tmp bytes) c.in_ok-write_new.ensures.can c.in_ok-write_new.ensures.ok c.in_ok-make_home.ensures.closed in
    closed_failed s3 s4 (Renamed tmp path) _ c.in_err-rename.ensures.err closed3

pub returns-in_err-rename-clause-left : goal.returns-in_err-rename-clause-left
returns-in_err-rename-clause-left g c =
    let seen = g.T.FileTree.seen in
    let s0 = seen c.args.self.now.tree in
    let s1 = seen c.remove.new.self in
    let s2 = seen c.make_home.new.self.tree in
    let s3 = seen c.write_new.new.self in
    let s4 = seen c.rename.new.self in
    let path = c.args.path.now in
    let bytes = c.args.bytes.now in
    let tmp = c.args.tmp.now in
    let left1 = left_tmp s0.stands s1.stands path tmp None (ap (λ (s : Seen). s.stands) c.in_ok-remove.ensures.ok) in
    let left2 = left_then s0.stands s1.stands s2.stands path tmp left1 (left_widened s1.stands s2.stands path tmp c.in_ok-make_home.ensures.left) in
    let left3 = left_then s0.stands s2.stands s3.stands path tmp left2 (left_tmp s2.stands s3.stands path tmp (Some (File bytes)) (ap (λ (s : Seen). s.stands) c.in_ok-write_new.ensures.ok)) in
    let there : s3.stands tmp ≡ Some (File bytes) = ap (λ (s : Seen). s.stands tmp) c.in_ok-write_new.ensures.ok ∙ put_at-here s2.stands tmp (Some (File bytes)) in
    put_failed _ _ s0.stands s3 s4 path bytes tmp _ (handed_on _ _ _ c.from_residual-in_err-rename.ensures.1) c.requires.apart left3 there c.in_err-rename.ensures.err

pub returns-clause-closed : goal.returns-clause-closed
returns-clause-closed g c =
    let seen = g.T.FileTree.seen in
    let s2 = seen c.make_home.new.self.tree in
    let s3 = seen c.write_new.new.self in
    let s4 = seen c.rename.new.self in
    let path = c.args.path.now in
    let bytes = c.args.bytes.now in
    let tmp = c.args.tmp.now in
    let closed3 = closed_done s2 s3 (Wrote tmp bytes) c.in_ok-write_new.ensures.can c.in_ok-write_new.ensures.ok c.in_ok-make_home.ensures.closed in
    subst IsClosed (sym c.sync_holder.ensures.stands) (closed_done s3 s4 (Renamed tmp path) c.in_ok-rename.ensures.can c.in_ok-rename.ensures.ok closed3)

pub returns-clause-left : goal.returns-clause-left
returns-clause-left g c =
    let seen = g.T.FileTree.seen in
    let s0 = seen c.args.self.now.tree in
    let s1 = seen c.remove.new.self in
    let s2 = seen c.make_home.new.self.tree in
    let s3 = seen c.write_new.new.self in
    let s5 = seen c.sync_holder.new.self.tree in
    let path = c.args.path.now in
    let bytes = c.args.bytes.now in
    let tmp = c.args.tmp.now in
    let left1 = left_tmp s0.stands s1.stands path tmp None (ap (λ (s : Seen). s.stands) c.in_ok-remove.ensures.ok) in
    let left2 = left_then s0.stands s1.stands s2.stands path tmp left1 (left_widened s1.stands s2.stands path tmp c.in_ok-make_home.ensures.left) in
    let left3 = left_then s0.stands s2.stands s3.stands path tmp left2 (left_tmp s2.stands s3.stands path tmp (Some (File bytes)) (ap (λ (s : Seen). s.stands) c.in_ok-write_new.ensures.ok)) in
    let there : s3.stands tmp ≡ Some (File bytes) = ap (λ (s : Seen). s.stands tmp) c.in_ok-write_new.ensures.ok ∙ put_at-here s2.stands tmp (Some (File bytes)) in
    put_ends s0.stands s3.stands s5.stands path bytes tmp c.requires.apart left3 there (c.sync_holder.ensures.stands ∙ ap (λ (s : Seen). s.stands) c.in_ok-rename.ensures.ok)

pub returns-clause-order : goal.returns-clause-order
returns-clause-order g c =
    let seen = g.T.FileTree.seen in
    let s0 = seen c.args.self.now.tree in
    let s1 = seen c.remove.new.self in
    let s2 = seen c.make_home.new.self.tree in
    let s3 = seen c.write_new.new.self in
    let s4 = seen c.rename.new.self in
    let s5 = seen c.sync_holder.new.self.tree in
    let path = c.args.path.now in
    let bytes = c.args.bytes.now in
    let tmp = c.args.tmp.now in
    let made = c.in_ok-make_home.ensures.order in
    let synced = c.sync_holder.ensures.synced c.in_ok-make_home.ensures.still_sound in
    let acts = λ (s : Seen). s.acts in
    record {
      made = made.0;
      synced = synced.0;
      making = made.1;
      holders_synced = synced.1;
      acts = put_acts s0.acts s1.acts s2.acts s3.acts s4.acts s5.acts made.0 synced.0 (Removed tmp) (Wrote tmp bytes) (Renamed tmp path) (ap acts c.in_ok-remove.ensures.ok) made.2 (ap acts c.in_ok-write_new.ensures.ok) (ap acts c.in_ok-rename.ensures.ok) synced.2;
    }

pub returns-in_err-remove-clause-stops : goal.returns-in_err-remove-clause-stops
returns-in_err-remove-clause-stops g c =
    let seen = g.T.FileTree.seen in
    let s0 = seen c.args.self.now.tree in
    let s1 = seen c.remove.new.self in
    let path = c.args.path.now in
    let bytes = c.args.bytes.now in
    let tmp = c.args.tmp.now in
    clearing_failed s0 s1 path bytes tmp _ c.in_err-remove.ensures.err

pub returns-in_err-make_home-clause-stops : goal.returns-in_err-make_home-clause-stops
returns-in_err-make_home-clause-stops g c =
    let seen = g.T.FileTree.seen in
    let s0 = seen c.args.self.now.tree in
    let s1 = seen c.remove.new.self in
    let s2 = seen c.make_home.new.self.tree in
    let path = c.args.path.now in
    let bytes = c.args.bytes.now in
    let tmp = c.args.tmp.now in
    let left1 = left_tmp s0.stands s1.stands path tmp None (ap (λ (s : Seen). s.stands) c.in_ok-remove.ensures.ok) in
    let keeps1 = cleared s0 s1 path bytes tmp c.in_ok-remove.ensures.ok in
    widened s0 s1 s2 path bytes tmp keeps1 left1 c.in_err-make_home.ensures.stops

pub returns-in_err-write_new-clause-stops : goal.returns-in_err-write_new-clause-stops
returns-in_err-write_new-clause-stops g c =
    let seen = g.T.FileTree.seen in
    let s0 = seen c.args.self.now.tree in
    let s1 = seen c.remove.new.self in
    let s2 = seen c.make_home.new.self.tree in
    let s3 = seen c.write_new.new.self in
    let path = c.args.path.now in
    let bytes = c.args.bytes.now in
    let tmp = c.args.tmp.now in
    let left1 = left_tmp s0.stands s1.stands path tmp None (ap (λ (s : Seen). s.stands) c.in_ok-remove.ensures.ok) in
    let left2 = left_then s0.stands s1.stands s2.stands path tmp left1 (left_widened s1.stands s2.stands path tmp c.in_ok-make_home.ensures.left) in
    let keeps1 = cleared s0 s1 path bytes tmp c.in_ok-remove.ensures.ok in
    let keeps2 = widened s0 s1 s2 path bytes tmp keeps1 left1 c.in_ok-make_home.ensures.stops in
    writing_failed s0 s2 s3 path bytes tmp _ keeps2 left2 c.in_err-write_new.ensures.err

pub returns-in_err-rename-clause-stops : goal.returns-in_err-rename-clause-stops
returns-in_err-rename-clause-stops g c =
    let seen = g.T.FileTree.seen in
    let s0 = seen c.args.self.now.tree in
    let s1 = seen c.remove.new.self in
    let s2 = seen c.make_home.new.self.tree in
    let s3 = seen c.write_new.new.self in
    let s4 = seen c.rename.new.self in
    let path = c.args.path.now in
    let bytes = c.args.bytes.now in
    let tmp = c.args.tmp.now in
    let left1 = left_tmp s0.stands s1.stands path tmp None (ap (λ (s : Seen). s.stands) c.in_ok-remove.ensures.ok) in
    let left2 = left_then s0.stands s1.stands s2.stands path tmp left1 (left_widened s1.stands s2.stands path tmp c.in_ok-make_home.ensures.left) in
    let left3 = left_then s0.stands s2.stands s3.stands path tmp left2 (left_tmp s2.stands s3.stands path tmp (Some (File bytes)) (ap (λ (s : Seen). s.stands) c.in_ok-write_new.ensures.ok)) in
    let there : s3.stands tmp ≡ Some (File bytes) = ap (λ (s : Seen). s.stands tmp) c.in_ok-write_new.ensures.ok ∙ put_at-here s2.stands tmp (Some (File bytes)) in
    let keeps1 = cleared s0 s1 path bytes tmp c.in_ok-remove.ensures.ok in
    let keeps2 = widened s0 s1 s2 path bytes tmp keeps1 left1 c.in_ok-make_home.ensures.stops in
    let keeps3 = written s0 s2 s3 path bytes tmp keeps2 left2 c.in_ok-write_new.ensures.ok in
    naming_failed s0 s3 s4 path bytes tmp _ keeps3 c.requires.apart left3 there c.in_err-rename.ensures.err

pub returns-clause-stops : goal.returns-clause-stops
returns-clause-stops g c =
    let seen = g.T.FileTree.seen in
    let s0 = seen c.args.self.now.tree in
    let s1 = seen c.remove.new.self in
    let s2 = seen c.make_home.new.self.tree in
    let s3 = seen c.write_new.new.self in
    let s4 = seen c.rename.new.self in
    let s5 = seen c.sync_holder.new.self.tree in
    let path = c.args.path.now in
    let bytes = c.args.bytes.now in
    let tmp = c.args.tmp.now in
    let left1 = left_tmp s0.stands s1.stands path tmp None (ap (λ (s : Seen). s.stands) c.in_ok-remove.ensures.ok) in
    let left2 = left_then s0.stands s1.stands s2.stands path tmp left1 (left_widened s1.stands s2.stands path tmp c.in_ok-make_home.ensures.left) in
    let left3 = left_then s0.stands s2.stands s3.stands path tmp left2 (left_tmp s2.stands s3.stands path tmp (Some (File bytes)) (ap (λ (s : Seen). s.stands) c.in_ok-write_new.ensures.ok)) in
    let there : s3.stands tmp ≡ Some (File bytes) = ap (λ (s : Seen). s.stands tmp) c.in_ok-write_new.ensures.ok ∙ put_at-here s2.stands tmp (Some (File bytes)) in
    let keeps1 = cleared s0 s1 path bytes tmp c.in_ok-remove.ensures.ok in
    let keeps2 = widened s0 s1 s2 path bytes tmp keeps1 left1 c.in_ok-make_home.ensures.stops in
    let keeps3 = written s0 s2 s3 path bytes tmp keeps2 left2 c.in_ok-write_new.ensures.ok in
    named s0 s3 s4 s5 path bytes tmp c.sync_holder.new.self.is_sound keeps3 c.requires.apart left3 there c.in_ok-rename.ensures.ok c.sync_holder.ensures.stands (c.sync_holder.ensures.synced c.in_ok-make_home.ensures.still_sound)
