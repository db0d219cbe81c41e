use Rattle.std.proofs.Common.{sym}
use Rattle.std.specs.Fmt.{decimal}
use Rattle.keep_paths.proofs.Cutting.{halves, uncut}
use Rattle.keep_names.proofs.Numbers.{number_lacks}
use Rattle.keep_paths.specs.KeyPath.{name_path}
use Rattle.keep_paths.proofs.path.parse_trash.Goals as goal

pub returns-in_err-number : goal.returns-in_err-number
returns-in_err-number c =
    rw c.from_residual.ensures (λ p sized e.
    uncut c.args.path.now (decimal p.0) (name_path p.1) c.split_once.result c.split_once.ensures.cases c.in_err-number.was e (number_lacks p.0 sized.0))

pub returns-in_err-number-2 : goal.returns-in_err-number-2
returns-in_err-number-2 c =
    let none = rw c.in_err-number-2.was at c.parse_number.ensures in
    rw c.from_residual-in_err-number-2.ensures (λ p sized e.
    let parts = halves c.args.path.now (decimal p.0) (name_path p.1) c.split_once.result (c.in_ok-number.number, c.in_ok-number.name) c.split_once.ensures.cases c.in_ok-number.was e (number_lacks p.0 sized.0) in
    none p.0 sized.0 (sym parts.0))

pub returns-in_err-name : goal.returns-in_err-name
returns-in_err-name c =
    let none = rw c.in_err-name.was at c.parse_name.ensures in
    rw c.from_residual-in_err-name.ensures (λ p sized e.
    let parts = halves c.args.path.now (decimal p.0) (name_path p.1) c.split_once.result (c.in_ok-number.number, c.in_ok-number.name) c.split_once.ensures.cases c.in_ok-number.was e (number_lacks p.0 sized.0) in
    none p.1 sized.1 (sym parts.1))
