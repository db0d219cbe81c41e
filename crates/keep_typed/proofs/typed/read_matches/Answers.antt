use Rattle.std.proofs.Common.{◌≡◌, ◌∙◌, Some, ap}
use Rattle.std.specs.Option.{option_map}
use Rattle.clap.specs.Words.{subcommand_rows_of}
use Rattle.keep_words.specs.Read.{rows_in}
use Rattle.keep_typed.proofs.TypedLemmas.{found-shown, shown}
use Rattle.keep_typed.proofs.typed.read_matches.Goals as goal

pub returns : goal.returns
returns c =
    let is : subcommand_rows_of c.args.matches.now ≡ Some (c.in-Some.name.now, rows_in c.in-Some.below.now) =
    found-shown c.args.matches.now c.subcommand.result c.subcommand.ensures.name c.subcommand.ensures.rows ∙ ap (option_map shown) c.in-Some.is in
    rw is (c.words_of.ensures c.in-Some.name.now c.in_ok-command.ensures)
