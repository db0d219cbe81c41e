use Rattle.std.proofs.Common.{◌≡◌, ◌++◌, codes, subst, sym}
use Rattle.keep_paths.proofs.Cutting.{joined, whole}
use Rattle.keep_paths.proofs.Folders.{in_top, no_other, pack_folder, packs_hold, top_holds, trash_folder, trash_holds}
use Rattle.keep_paths.specs.Folder.{HoldsKeys, LiesIn}
use Rattle.keep_paths.specs.KeyPath.{key_path}
use Rattle.keep_paths.proofs.folder.holds_keys.Goals as goal

pub returns-in_default : goal.returns-in_default
returns-in_default c =
    let lacks = whole c.args.folder.now c.split_once.result c.split_once.ensures.cases c.in_default.is in (
      λ yes. top_holds c.args.folder.now (c.is_top_folder.ensures.0 yes),
      λ h. c.is_top_folder.ensures.1 (in_top h.0 c.args.folder.now h.1 lacks h.2),
    )

pub returns-in-data : goal.returns-in-data
returns-in-data c =
    let split = joined c.args.folder.now c.split_once.result (c.in-Some.first, c.in-Some.rest) c.split_once.ensures.cases c.in-Some.is in
    let folder : c.args.folder.now ≡ codes "data/" ++ c.in-Some.rest.now = rw c.in-data.is at split.0 in (
      λ yes. subst HoldsKeys (sym folder) (packs_hold c.in-Some.rest.now (c.is_pack_folder.ensures.0 yes)),
      λ h. c.is_pack_folder.ensures.1 (pack_folder h.0 c.in-Some.rest.now h.1 (subst (LiesIn (key_path h.0)) folder h.2)),
    )

pub returns-in-trash : goal.returns-in-trash
returns-in-trash c =
    let split = joined c.args.folder.now c.split_once.result (c.in-Some.first, c.in-Some.rest) c.split_once.ensures.cases c.in-Some.is in
    let folder : c.args.folder.now ≡ codes "trash/" ++ c.in-Some.rest.now = rw c.in-trash.is at split.0 in (
      λ yes. subst HoldsKeys (sym folder) (trash_holds c.in-Some.rest.now (c.is_trash_folder.ensures.0 yes)),
      λ h.
          let below = trash_folder h.0 c.in-Some.rest.now h.1 (subst (LiesIn (key_path h.0)) folder h.2) in
          c.is_trash_folder.ensures.1 ((below.0, below.1), below.2, below.3),
    )

pub returns-in_default-first : goal.returns-in_default-first
returns-in_default-first c =
    let split = joined c.args.folder.now c.split_once.result (c.in-Some.first, c.in-Some.rest) c.split_once.ensures.cases c.in-Some.is in (
      λ yes. cc yes,
      λ h. absurd (no_other h.0 c.in-Some.first.now c.in-Some.rest.now h.1 split.1 c.in_default-first.not-data c.in_default-first.not-trash (subst (LiesIn (key_path h.0)) split.0 h.2)),
    )
