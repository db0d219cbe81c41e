use Rattle.std.proofs.Common.{subst, sym, ◌∙◌}
use Rattle.std.specs.Fmt.{decimal}
use Rattle.keep_names.specs.FileName.{kind_text, IsKind}
use Rattle.keep_paths.proofs.Cutting.{joined, whole}
use Rattle.keep_paths.proofs.Folders.{change_folder, change_holds, found, kind_folder, kind_holds, parsed}
use Rattle.keep_paths.specs.Folder.{LiesIn}
use Rattle.keep_names.specs.Number.{IsNumber}
use Rattle.keep_paths.specs.KeyPath.{trash_path}
use Rattle.keep_paths.proofs.folder.is_trash_folder.Goals as goal

pub returns-in-None : goal.returns-in-None
returns-in-None c =
    let path = c.args.path.now in
    let lacks = whole path c.split_once.result c.split_once.ensures.cases c.in-None.is in
    let told = c.is_some-in-None.ensures in (
      λ yes. let number = found IsNumber decimal path c.parse_number-in-None.result c.parse_number-in-None.ensures (sym told ∙ yes) in change_holds path number.0 number.1 number.2,
      λ h. told ∙ parsed IsNumber decimal path c.parse_number-in-None.result h.0.0 c.parse_number-in-None.ensures h.1.0 (change_folder h.0.0 h.0.1 path h.1 lacks h.2),
    )

pub returns-then-is_some : goal.returns-then-is_some
returns-then-is_some c =
    let path = c.args.path.now in
    let split = joined path c.split_once.result (c.in-Some.number, c.in-Some.word) c.split_once.ensures.cases c.in-Some.is in
    let told = c.is_some-then-is_some.ensures in
    let number = found IsNumber decimal c.in-Some.number.now c.parse_number.result c.parse_number.ensures (sym c.is_some.ensures ∙ c.if-is_some.true) in (
      λ yes.
          let kind = found IsKind kind_text c.in-Some.word.now c.parse_kind.result c.parse_kind.ensures (sym told ∙ yes) in
          kind_holds path c.in-Some.number.now c.in-Some.word.now number.0 kind.0 split.0 number.1 number.2 kind.2,
      λ h.
          let parts = kind_folder h.0.0 h.0.1 c.in-Some.number.now c.in-Some.word.now h.1 split.1 (subst (LiesIn (trash_path h.0)) split.0 h.2) in
          told ∙ parsed IsKind kind_text c.in-Some.word.now c.parse_kind.result h.0.1.kind c.parse_kind.ensures tt parts.1,
    )

pub returns-else-is_some : goal.returns-else-is_some
returns-else-is_some c =
    let split = joined c.args.path.now c.split_once.result (c.in-Some.number, c.in-Some.word) c.split_once.ensures.cases c.in-Some.is in (
      λ yes. cc (sym yes ∙ c.if-is_some.false),
      λ h.
          let parts = kind_folder h.0.0 h.0.1 c.in-Some.number.now c.in-Some.word.now h.1 split.1 (subst (LiesIn (trash_path h.0)) split.0 h.2) in
          c.is_some.ensures ∙ parsed IsNumber decimal c.in-Some.number.now c.parse_number.result h.0.0 c.parse_number.ensures h.1.0 parts.0,
    )
