use Rattle.std.proofs.Common.{rules}
use Rattle.json.proofs.Printed.Strings.{escape_byte_plain}
use Rattle.keep_docs.proofs.text_of.is_plain_byte.Goals as goal

pub returns-then-byte-ne34 : goal.returns-then-byte-ne34
returns-then-byte-ne34 c = λ other. escape_byte_plain c.args.byte (search rules) (search rules) (search rules)
