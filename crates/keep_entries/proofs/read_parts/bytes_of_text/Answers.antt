use Rattle.std.proofs.lemmas.Result.{IfOk-weaker}
use Rattle.keep_entries.proofs.HexBytes.{found_bytes}
use Rattle.keep_entries.proofs.read_parts.bytes_of_text.Goals as goal

pub returns : goal.returns
returns c =
    IfOk-weaker c.decode_hex.result _ _ (λ found reads. found_bytes c.args.text.now found reads) c.decode_hex.ensures
