use Rattle.std.proofs.Common.{◌∙◌, ap}
use Rattle.std.specs.Prelude.{option_and_then}
use Rattle.std.specs.Str.Parse.{ParsesUnsigned, ExplainsUnsignedError, HasUnsignedDigitsIfOk}
use Rattle.clap.proofs.WalkLemmas.{one_text-rows}
use Rattle.clap.specs.Words.{found_of, one_text}
use Rattle.keep_words.specs.Read.{number_in}
use Rattle.keep_words.proofs.ValueLemmas.{number-read}
use Rattle.keep_words.proofs.word_values.number.Goals as goal

pub returns : goal.returns
returns c =
    number-read _ (λ bs r. ParsesUnsigned 64 10 bs r × ExplainsUnsignedError 10 bs r × HasUnsignedDigitsIfOk bs r) (one_text (found_of c.args.matches.now) c.args.name.now) c.get_one.result c.get_one.ensures.none c.get_one.ensures.value (λ t x h. h.0)
    ∙ ap (option_and_then number_in) (one_text-rows (found_of c.args.matches.now) c.args.name.now)
