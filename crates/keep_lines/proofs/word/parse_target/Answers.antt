use Rattle.std.proofs.Common.{◌≡◌, Ok, refl, sym, ◌∙◌, lit<}
use Rattle.std.proofs.lemmas.Str.Pattern.{strip_prefix_char}
use Rattle.keep_lines.proofs.WordLemmas.{IsDigest-parsed, id-none, id-parsed, no_target-named, no_target-numbered}
use Rattle.keep_lines.proofs.word.parse_target.Goals as goal

pub returns-in_err-number-in-Some : goal.returns-in_err-number-in-Some
returns-in_err-number-in-Some c =
    let prefix = strip_prefix_char 64 c.args.word.now c.strip_prefix.result c.strip_prefix.ensures.cases (lit< tt) in
    let split = rw c.in-Some.is at prefix in
    let none = rw c.in_err-number-in-Some.was at c.parse_number.ensures in
    rw c.from_residual.ensures (no_target-numbered c.args.word.now c.in-Some.number.now split none)

pub returns-in_err-id-in-None : goal.returns-in_err-id-in-None
returns-in_err-id-in-None c =
    let prefix = strip_prefix_char 64 c.args.word.now c.strip_prefix.result c.strip_prefix.ensures.cases (lit< tt) in
    let other = rw c.in-None.is at prefix in
    let none = id-none c.parse_id.result (sym c.ok.ensures.value ∙ c.in_err-id-in-None.was) in
    rw c.from_residual-in_err-id-in-None.ensures (no_target-named c.args.word.now other (λ id h e. none id (c.parse_id.ensures.printed id h e)))

pub returns-in_ok-id-in-None : goal.returns-in_ok-id-in-None
returns-in_ok-id-in-None c =
    let id = c.in_ok-id-in-None.id in
    let parsed : c.parse_id.result ≡ Ok id = id-parsed c.parse_id.result id (sym c.ok.ensures.value ∙ c.in_ok-id-in-None.was) in
    let digits = c.parse_id.ensures.accepted.0 (rw parsed refl) in
    let text = rw parsed at c.parse_id.ensures.value in
    (IsDigest-parsed c.args.word.now id digits (λ other h e. cc (sym parsed ∙ c.parse_id.ensures.printed other h e)), text)
