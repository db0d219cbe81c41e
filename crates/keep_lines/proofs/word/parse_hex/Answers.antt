use Rattle.std.proofs.Common.{◌≡◌, ◌≢◌, codes, length, ◌==◌, ◌<◌, false, sym, ◌∙◌, arith}
use Rattle.std.proofs.lemmas.Bool.{eqb-true}
use Rattle.std.proofs.lemmas.Bool.Decides.{nat_tests}
use Rattle.std.proofs.lemmas.Slice.Eq.{bytes_eq-Decides}
use Rattle.keep_lines.proofs.HexWord.{no_hex-empty, word_parsed}
use Rattle.keep_lines.proofs.word.parse_hex.Goals as goal

pub returns-then-is_empty : goal.returns-then-is_empty
returns-then-is_empty c =
    let word = c.args.word.now in
    let dash : codes "-" ≢ word = λ e. cc (sym c.if-eq.false ∙ c.eq.ensures ∙ (bytes_eq-Decides word (codes "-")).1 (sym e)) in
    no_hex-empty word dash (eqb-true _ _ (sym c.is_empty.ensures ∙ c.if-is_empty.true))

pub returns : goal.returns
returns c =
    let word = c.args.word.now in
    let dash : codes "-" ≢ word = λ e. cc (sym c.if-eq.false ∙ c.eq.ensures ∙ (bytes_eq-Decides word (codes "-")).1 (sym e)) in
    let known : (length word == 0) ≡ false = sym c.is_empty.ensures ∙ c.if-is_empty.false in
    let some : 0 < length word = grind (arith, nat_tests) in
    word_parsed word dash some c.decode_hex.result c.decode_hex.ensures
