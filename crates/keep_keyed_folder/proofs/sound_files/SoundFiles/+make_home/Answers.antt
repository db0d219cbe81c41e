use Rattle.std.proofs.Common.{◌≡◌, Some, true, sym, ap, ◌∙◌, subst, inl, refl}
use Rattle.keep_files.specs.Act.{Made, Seen}
use Rattle.keep_files.specs.Stands.{IsClosed, is_folder}
use Rattle.keep_files.specs.declared.node.Node.TheVariants.{Folder}
use Rattle.keep_keyed_folder.proofs.Acts.{closed_done, closed_failed, made_order}
use Rattle.keep_keyed_folder.proofs.Left.{folder_there, home_made, widened_above, widened_made, widened_making, widened_same, widened_then}
use Rattle.keep_keyed_folder.proofs.Course.{homed, making, making_failed}
use Rattle.keep_keyed_folder.proofs.Stopping.{keeps_failing, keeps_still}
use Rattle.keep_keyed_folder.specs.Left.{IsWidened}
use Rattle.keep_keyed_folder.proofs.sound_files.SoundFiles.+make_home.Goals as goal

pub returns-in_default-clause-home : goal.returns-in_default-clause-home
returns-in_default-clause-home g t c = λ folder lies. absurd (cc (c.in_default.ensures.only folder lies))

pub returns-then-branch-clause-home : goal.returns-then-branch-clause-home
returns-then-branch-clause-home g t c = λ folder lies.
    let seen = g.T.FileTree.seen in
    let yes : is_folder ((seen c.args.self.now.tree).stands c.in-Some.home.now) ≡ true = sym c.in_ok-has_folder.ensures.found ∙ c.if-branch.true in
    let same : c.in-Some.home.now ≡ folder = cc (c.in-Some.ensures.only folder lies) in
    ap (λ (s : Seen). s.stands folder) c.in_ok-has_folder.ensures.ok
    ∙ subst (λ p. (seen c.args.self.now.tree).stands p ≡ Some Folder) same (folder_there _ yes)

pub returns-in_err-make_folder-clause-closed : goal.returns-in_err-make_folder-clause-closed
returns-in_err-make_folder-clause-closed g t c = closed_failed _ _ (Made c.in-Some.home.now) _ c.in_err-make_folder.ensures.err c.in_ok-make_home.ensures.closed

pub returns-in_err-make_folder-clause-left : goal.returns-in_err-make_folder-clause-left
returns-in_err-make_folder-clause-left g t c =
    let seen = g.T.FileTree.seen in
    let before = (seen c.args.self.now.tree).stands in
    let asked = (seen c.has_folder.new.self).stands in
    let homed = (seen c.make_home.new.self.tree).stands in
    let after = (seen c.make_folder.new.self).stands in
    let path = c.args.path.now in
    let first = widened_same before asked path (ap (λ (s : Seen). s.stands) c.in_ok-has_folder.ensures.ok) in
    let next = widened_above asked homed path c.in-Some.home.now c.in-Some.ensures.home c.in_ok-make_home.ensures.left in
    let last = widened_making (seen c.make_home.new.self.tree) (seen c.make_folder.new.self) path c.in-Some.home.now _ c.in-Some.ensures.home c.in_err-make_folder.ensures.err in
    widened_then before asked after path first (widened_then asked homed after path next last)

pub returns-then-self-clause-closed : goal.returns-then-self-clause-closed
returns-then-self-clause-closed g t c =
    let seen = g.T.FileTree.seen in
    subst IsClosed (sym c.sync_holder.ensures.stands)
    (closed_done (seen c.make_home.new.self.tree) (seen c.make_folder.new.self) (Made c.in-Some.home.now) c.in_ok-make_folder.ensures.can c.in_ok-make_folder.ensures.ok c.in_ok-make_home.ensures.closed)

pub returns-then-self-clause-left : goal.returns-then-self-clause-left
returns-then-self-clause-left g t c =
    let seen = g.T.FileTree.seen in
    let before = (seen c.args.self.now.tree).stands in
    let asked = (seen c.has_folder.new.self).stands in
    let homed = (seen c.make_home.new.self.tree).stands in
    let made = (seen c.make_folder.new.self).stands in
    let after = (seen c.sync_holder.new.self.tree).stands in
    let path = c.args.path.now in
    let first = widened_same before asked path (ap (λ (s : Seen). s.stands) c.in_ok-has_folder.ensures.ok) in
    let next = widened_above asked homed path c.in-Some.home.now c.in-Some.ensures.home c.in_ok-make_home.ensures.left in
    let third = widened_made homed made path c.in-Some.home.now c.in-Some.ensures.home c.in_ok-make_folder.ensures.can.0 (ap (λ (s : Seen). s.stands) c.in_ok-make_folder.ensures.ok) in
    let last = widened_same made after path c.sync_holder.ensures.stands in
    widened_then before asked after path first (widened_then asked homed after path next (widened_then homed made after path third last))

pub returns-then-self-clause-home : goal.returns-then-self-clause-home
returns-then-self-clause-home g t c =
    let seen = g.T.FileTree.seen in
    let homed = (seen c.make_home.new.self.tree).stands in
    home_made homed (seen c.sync_holder.new.self.tree).stands c.args.path.now c.in-Some.home.now c.in-Some.ensures.home c.in-Some.ensures.only
    (c.sync_holder.ensures.stands ∙ ap (λ (s : Seen). s.stands) c.in_ok-make_folder.ensures.ok)

pub returns-then-self-clause-order : goal.returns-then-self-clause-order
returns-then-self-clause-order g t c =
    let seen = g.T.FileTree.seen in
    let acts = λ (s : Seen). s.acts in
    let made = c.in_ok-make_home.ensures.order in
    let synced = c.sync_holder.ensures.synced c.in_ok-make_home.ensures.still_sound in
    made_order (seen c.args.self.now.tree).acts (seen c.has_folder.new.self).acts (seen c.make_home.new.self.tree).acts (seen c.make_folder.new.self).acts (seen c.sync_holder.new.self.tree).acts made.0 synced.0
    c.in-Some.home.now c.sync_holder.new.self.is_sound c.if-self.true made.1 synced.1 (ap acts c.in_ok-has_folder.ensures.ok) made.2 (ap acts c.in_ok-make_folder.ensures.ok) synced.2

pub returns-else-self-clause-closed : goal.returns-else-self-clause-closed
returns-else-self-clause-closed g t c =
    let seen = g.T.FileTree.seen in
    subst IsClosed (sym c.sync_holder.ensures.stands)
    (closed_done (seen c.make_home.new.self.tree) (seen c.make_folder.new.self) (Made c.in-Some.home.now) c.in_ok-make_folder.ensures.can c.in_ok-make_folder.ensures.ok c.in_ok-make_home.ensures.closed)

pub returns-else-self-clause-left : goal.returns-else-self-clause-left
returns-else-self-clause-left g t c =
    let seen = g.T.FileTree.seen in
    let before = (seen c.args.self.now.tree).stands in
    let asked = (seen c.has_folder.new.self).stands in
    let homed = (seen c.make_home.new.self.tree).stands in
    let made = (seen c.make_folder.new.self).stands in
    let after = (seen c.sync_holder.new.self.tree).stands in
    let path = c.args.path.now in
    let first = widened_same before asked path (ap (λ (s : Seen). s.stands) c.in_ok-has_folder.ensures.ok) in
    let next = widened_above asked homed path c.in-Some.home.now c.in-Some.ensures.home c.in_ok-make_home.ensures.left in
    let third = widened_made homed made path c.in-Some.home.now c.in-Some.ensures.home c.in_ok-make_folder.ensures.can.0 (ap (λ (s : Seen). s.stands) c.in_ok-make_folder.ensures.ok) in
    let last = widened_same made after path c.sync_holder.ensures.stands in
    widened_then before asked after path first (widened_then asked homed after path next (widened_then homed made after path third last))

pub returns-in_default-clause-stops : goal.returns-in_default-clause-stops
returns-in_default-clause-stops g t c =
    let seen = g.T.FileTree.seen in
    let s0 = seen c.args.self.now.tree in
    keeps_still (λ now. IsWidened s0.stands now c.args.path.now) s0 s0 (λ q. inl refl) refl refl

pub returns-in_err-has_folder-clause-stops : goal.returns-in_err-has_folder-clause-stops
returns-in_err-has_folder-clause-stops g t c =
    let seen = g.T.FileTree.seen in
    let s0 = seen c.args.self.now.tree in
    keeps_failing (λ now. IsWidened s0.stands now c.args.path.now) s0 (seen c.has_folder.new.self) (λ q. inl refl) c.in_err-has_folder.ensures.err

pub returns-then-branch-clause-stops : goal.returns-then-branch-clause-stops
returns-then-branch-clause-stops g t c =
    let seen = g.T.FileTree.seen in
    let s0 = seen c.args.self.now.tree in
    keeps_still (λ now. IsWidened s0.stands now c.args.path.now) s0 (seen c.has_folder.new.self) (λ q. inl refl) (ap (λ (s : Seen). s.acts) c.in_ok-has_folder.ensures.ok) (ap (λ (s : Seen). s.stands) c.in_ok-has_folder.ensures.ok)

pub returns-in_err-make_home-clause-stops : goal.returns-in_err-make_home-clause-stops
returns-in_err-make_home-clause-stops g t c =
    let seen = g.T.FileTree.seen in
    let s0 = seen c.args.self.now.tree in
    homed s0 (seen c.has_folder.new.self) (seen c.make_home.new.self.tree) c.args.path.now c.in-Some.home.now c.in_ok-has_folder.ensures.ok c.in-Some.ensures.home c.in_err-make_home.ensures.stops

pub returns-in_err-make_folder-clause-stops : goal.returns-in_err-make_folder-clause-stops
returns-in_err-make_folder-clause-stops g t c =
    let seen = g.T.FileTree.seen in
    let s0 = seen c.args.self.now.tree in
    let above = homed s0 (seen c.has_folder.new.self) (seen c.make_home.new.self.tree) c.args.path.now c.in-Some.home.now c.in_ok-has_folder.ensures.ok c.in-Some.ensures.home c.in_ok-make_home.ensures.stops in
    making_failed s0 (seen c.make_home.new.self.tree) (seen c.make_folder.new.self) c.args.path.now c.in-Some.home.now _ c.in-Some.ensures.home above c.in_err-make_folder.ensures.err

pub returns-then-self-clause-stops : goal.returns-then-self-clause-stops
returns-then-self-clause-stops g t c =
    let seen = g.T.FileTree.seen in
    let s0 = seen c.args.self.now.tree in
    let above = homed s0 (seen c.has_folder.new.self) (seen c.make_home.new.self.tree) c.args.path.now c.in-Some.home.now c.in_ok-has_folder.ensures.ok c.in-Some.ensures.home c.in_ok-make_home.ensures.stops in
    making s0 (seen c.make_home.new.self.tree) (seen c.make_folder.new.self) (seen c.sync_holder.new.self.tree) c.args.path.now c.in-Some.home.now c.sync_holder.new.self.is_sound c.in-Some.ensures.home above c.in_ok-make_folder.ensures.can c.in_ok-make_folder.ensures.ok c.sync_holder.ensures.stands (c.sync_holder.ensures.synced c.in_ok-make_home.ensures.still_sound)

pub returns-else-self-clause-stops : goal.returns-else-self-clause-stops
returns-else-self-clause-stops g t c =
    let seen = g.T.FileTree.seen in
    let s0 = seen c.args.self.now.tree in
    let above = homed s0 (seen c.has_folder.new.self) (seen c.make_home.new.self.tree) c.args.path.now c.in-Some.home.now c.in_ok-has_folder.ensures.ok c.in-Some.ensures.home c.in_ok-make_home.ensures.stops in
    making s0 (seen c.make_home.new.self.tree) (seen c.make_folder.new.self) (seen c.sync_holder.new.self.tree) c.args.path.now c.in-Some.home.now c.sync_holder.new.self.is_sound c.in-Some.ensures.home above c.in_ok-make_folder.ensures.can c.in_ok-make_folder.ensures.ok c.sync_holder.ensures.stands (c.sync_holder.ensures.synced c.in_ok-make_home.ensures.still_sound)
