use Rattle.keep_paths.proofs.Digits.{id-parsed}
use Rattle.keep_paths.proofs.name.parse_digits.Goals as goal

pub returns : goal.returns
returns c =
    rw c.ok.ensures.value (id-parsed c.args.digits.now c.parse_id.result c.parse_id.ensures.accepted c.parse_id.ensures.value c.parse_id.ensures.printed)
