use Rattle.std.proofs.Common.{◌≡◌, ◌++◌, codes, ap, sym, ◌∙◌}
use Rattle.keep_paths.proofs.Apart.{no_trash}
use Rattle.keep_paths.proofs.Cutting.{joined}
use Rattle.keep_paths.proofs.path.find_key.Goals as goal

pub returns-in_err-number-in-trash : goal.returns-in_err-number-in-trash
returns-in_err-number-in-trash c =
    let split = joined c.args.path.now c.split_once.result (c.in_ok-folder.folder, c.in_ok-folder.rest) c.split_once.ensures.cases c.in_ok-folder.was in
    let path : c.args.path.now ≡ codes "trash/" ++ c.in_ok-folder.rest.now = rw c.in-trash.is at split.0 in
    let none = rw c.in_err-number-in-trash.was at c.parse_trash.ensures in
    rw c.from_residual-in_err-number-in-trash.ensures (no_trash c.args.path.now c.in_ok-folder.rest.now path none)

pub returns-in_ok-parse_pack-in-data : goal.returns-in_ok-parse_pack-in-data
returns-in_ok-parse_pack-in-data c =
    let split = joined c.args.path.now c.split_once.result (c.in_ok-folder.folder, c.in_ok-folder.rest) c.split_once.ensures.cases c.in_ok-folder.was in
    let path : c.args.path.now ≡ codes "data/" ++ c.in_ok-folder.rest.now = rw c.in-data.is at split.0 in
    let found = rw c.in_ok-parse_pack-in-data.was at c.parse_pack.ensures in
    rw c.pack.ensures (found.0, ap (λ rest. codes "data/" ++ rest) found.1 ∙ sym path)

pub returns-in_ok-parse_digits-in-index : goal.returns-in_ok-parse_digits-in-index
returns-in_ok-parse_digits-in-index c =
    let split = joined c.args.path.now c.split_once.result (c.in_ok-folder.folder, c.in_ok-folder.rest) c.split_once.ensures.cases c.in_ok-folder.was in
    let path : c.args.path.now ≡ codes "index/" ++ c.in_ok-folder.rest.now = rw c.in-index.is at split.0 in
    let found = rw c.in_ok-parse_digits-in-index.was at c.parse_digits.ensures in
    rw c.index.ensures (found.0, ap (λ rest. codes "index/" ++ rest) found.1 ∙ sym path)
