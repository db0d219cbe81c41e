use Rattle.std.proofs.Common.{◌≡◌, true, ◌∙◌}
use Rattle.std.specs.Char.{is_ascii_digit}
use Rattle.std.specs.List.{list_all}
use Rattle.keep_named.proofs.Numbers.{number_parsed}
use Rattle.keep_named.proofs.snapshot_names.number_in.Goals as goal

pub returns : goal.returns
returns c =
    let digits : list_all is_ascii_digit c.args.digits.now ≡ true = cc in
    c.ok.ensures.value ∙ number_parsed c.args.digits.now c.parse.result digits c.parse.ensures.value.0
