-- That planned forgets and edits of tags keep every sound repository sound.
use Rattle.std.specs.Prelude.{◌≡◌, Bool, All, IsUtf8, IfSome, Ok}
use Rattle.keep_names.specs.declared.id.Id.{Id}
use Rattle.keep_repo.specs.Repository.{Repository}
use Rattle.keep_change.specs.declared.change.Change.{Change}
use Rattle.keep_plan.specs.declared.pick.Pick.{Pick}
use Rattle.keep_sound.specs.Careful.{IsSafe}
use Rattle.keep_sound.specs.Met.{AddsPart, HasOneText}
use Rattle.keep_labels.specs.Edits.{EditData, edit_view}
use Rattle.keep_labels.specs.Forgetting.{forget_change}
use Rattle.keep_labels.specs.Keeping.{PolicyData}
use Rattle.keep_labels.specs.Tagging.{tag_change}
use Rattle.keep_labels.specs.declared.edit.Edit.{Edit}
use Rattle.keep_safety.specs.Met.{AreFiles, IsMet}

-- the change of a forget is safe, whatever snapshots are known
abbrev pub ForgetIsSafe : Type 0
ForgetIsSafe =
    (r all : Repository) (known : Id → Bool) (rule : Pick) (policy : PolicyData) (c : Change)
    → forget_change r rule policy ≡ Ok c → HasOneText all → IsSafe all known c

-- the tags that an edit sets or adds are texts
pub record HasTexts (edit : EditData) : Type 0 where
  pub set : IfSome edit.replace (All IsUtf8)
  pub added : All IsUtf8 edit.add

-- the change of an edit of tags is safe, whatever snapshots are known, where the new snapshots are met
abbrev pub TaggingIsSafe : Type 0
TaggingIsSafe =
    (r all : Repository) (known : Id → Bool) (rule : Pick) (edit : EditData) (c : Change)
    → tag_change r rule edit ≡ Ok c → HasTexts edit
    → IsMet all r → AreFiles r → AddsPart all c → IsSafe all known c

-- what an edit of tags is asked for is said in texts
abbrev pub EditsAreTexts : Type 0
EditsAreTexts = (edit : Edit) → HasTexts (edit_view edit)
