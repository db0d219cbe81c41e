use Rattle.std.proofs.Common.{◌≡◌, ℕ, List, true, ◌∙◌, subst}
use Rattle.std.specs.Char.{is_ascii_digit}
use Rattle.std.specs.List.{list_all}
use Rattle.std.specs.Str.Parse.{ParsesUnsigned}
use Rattle.keep_snap.specs.Time.{number}
use Rattle.keep_snap.proofs.Times.{digits_utf8, number_below, number_parsed}
use Rattle.keep_snap.proofs.time.number.Goals as goal

pub returns-in-Err-clause-value : goal.returns-in-Err-clause-value
returns-in-Err-clause-value c =
    let digits : list_all is_ascii_digit c.args.digits.now ≡ true = cc in
    absurd (c.in-Err.ensures.cases.0 (digits_utf8 c.args.digits.now digits))

pub returns-in-Ok-clause-value : goal.returns-in-Ok-clause-value
returns-in-Ok-clause-value c =
    let digits : list_all is_ascii_digit c.args.digits.now ≡ true = cc in
    let P : List ℕ → Type 0 = λ text. ParsesUnsigned 32 10 text c.parse.result in
    c.ok.ensures.value ∙ number_parsed c.args.digits.now c.parse.result c.requires digits (subst P c.in-Ok.ensures.cases.0 c.parse.ensures.value.0)

pub returns-in-Ok-clause-bound : goal.returns-in-Ok-clause-bound
returns-in-Ok-clause-bound c =
    let digits : list_all is_ascii_digit c.args.digits.now ≡ true = cc in
    let P : List ℕ → Type 0 = λ text. ParsesUnsigned 32 10 text c.parse.result in
    let is : c.ok.result ≡ number c.args.digits.now =
    c.ok.ensures.value ∙ number_parsed c.args.digits.now c.parse.result c.requires digits (subst P c.in-Ok.ensures.cases.0 c.parse.ensures.value.0) in
    number_below c.args.digits.now c.ok.result is
