use Rattle.std.proofs.Common.{rules}
use Rattle.hex.specs.Hex.{IsBytes}
use Rattle.keep_entries.proofs.Appended.{at_ok, digits_written, on_ok}
use Rattle.keep_entries.proofs.entry_values.put_digits.Goals as goal

pub returns : goal.returns
returns c =
    let bytes = c.args.id.0 in
    let fits : IsBytes bytes = search rules in
    let written = at_ok c.encode_to_slice.result c.unwrap.ensures c.encode_to_slice.ensures.written in
    on_ok c.put.result (digits_written _ bytes fits written) c.put.ensures
