-- What is said of a crew is handed on.
use Rattle.std.proofs.Common.{◌≡◌, ℕ, List, Option, Result, Ok, Err, [], append-nil, inl, inr, refl, sym}
use Rattle.std.proofs.KnownBytes.{Appends-kept}
use Rattle.std.specs.Io.KnownBytes.{Appends, Keeps}
use Rattle.keep_answers.proofs.KnownLemmas.{AppendsPart-from}
use Rattle.keep_answers.specs.Known.{WritesLines, line}
use Rattle.keep_command.specs.Ending.{ending_flushed}
use Rattle.keep_command.specs.Following.{Reports}
use Rattle.keep_command.specs.declared.ending.Ending.{Ending}

pub reports-flushed : {A E : Type 0} (old middle new : Option (List ℕ)) (text : List ℕ) (flushed : Result A E) (ended : Ending)
    → Appends old middle (line text) → Keeps middle new → ended ≡ ending_flushed flushed → Reports old new text ended
reports-flushed old middle new text (Ok done) ended put kept e = inl (Appends-kept old middle new (line text) put kept, e)
reports-flushed old middle new text (Err error) ended put kept e =
    inr (AppendsPart-from old new (line text) (line text) [] (sym (append-nil (line text))) (Appends-kept old middle new (line text) put kept), e)

-- a line is whole that is written and handed on
pub lines-flushed : (old middle new : Option (List ℕ)) (text : List ℕ) → Appends old middle (line text) → Keeps middle new → WritesLines old new
lines-flushed old middle new text put kept = (line text, Appends-kept old middle new (line text) put kept, inr (text, refl))
