use Rattle.std.proofs.Common.{take, sym, ◌∙◌}
use Rattle.keep_names.specs.Id.{id_text}
use Rattle.keep_paths.proofs.Cutting.{halves}
use Rattle.keep_paths.proofs.Digits.{front_lacks, is_front}
use Rattle.keep_paths.proofs.name.parse_pack.Goals as goal

pub returns-in_err-id : goal.returns-in_err-id
returns-in_err-id c =
    let none = rw c.in_err-id.was at c.parse_digits.ensures in
    rw c.from_residual-in_err-id.ensures (λ id whole e.
    let parts = halves c.args.path.now (take 2 (id_text id)) (id_text id) c.split_once.result (c.in_ok-folder.folder, c.in_ok-folder.digits) c.split_once.ensures.cases c.in_ok-folder.was e (front_lacks id whole) in
    none id whole (sym parts.1))

pub returns-else-is_front_of : goal.returns-else-is_front_of
returns-else-is_front_of c = λ id whole e.
    let parts = halves c.args.path.now (take 2 (id_text id)) (id_text id) c.split_once.result (c.in_ok-folder.folder, c.in_ok-folder.digits) c.split_once.ensures.cases c.in_ok-folder.was e (front_lacks id whole) in
    let front = is_front id c.in_ok-folder.folder.now c.in_ok-folder.digits.now whole parts.0 parts.1 in
    cc (sym c.if-is_front_of.false ∙ c.is_front_of.ensures.1 front)
