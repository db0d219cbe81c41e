use Rattle.std.proofs.Common.{◌≡◌, ◌++◌, [], ◌∷◌, List, ℕ, string_bytes, subst}
use Rattle.keep_targets.specs.Call.{Did, MakeFolder}
use Rattle.keep_putting.proofs.Put.{after_note}
use Rattle.keep_putting.specs.Made.{folders_in}
use Rattle.keep_putting.proofs.putting.put_folder.Goals as goal

pub returns-clause-made : goal.returns-clause-made
returns-clause-made g c =
    let before = g.T.Target.calls c.args.target.now in
    let after = g.T.Target.calls c.make_folder.new.self in
    let same = subst (λ (p : List ℕ). after ≡ before ++ Did (MakeFolder p) ∷ []) c.as_str.ensures.value c.in_default.ensures in
    after_note c.note.result (folders_in c.args.course.now.places) (folders_in c.note.new.self) c.as_str-2.result.now (string_bytes c.args.place)
    before after same c.note.ensures.ok c.note.ensures.err
