use Rattle.std.proofs.Common.{arith}
use Rattle.keep_names.proofs.HexPairs.{table-stands, table-tells}
use Rattle.keep_names.proofs.hex_digit.digit_value.Goals as goal

pub returns-clause-digit : goal.returns-clause-digit
returns-clause-digit c = table-tells c.args.byte (omega arith)

pub returns-clause-value : goal.returns-clause-value
returns-clause-value c = table-stands c.args.byte (omega arith)
