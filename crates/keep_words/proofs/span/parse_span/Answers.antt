use Rattle.std.proofs.Common.{◌∙◌, sym, lit<}
use Rattle.std.proofs.lemmas.Str.Pattern.{strip_suffix_char}
use Rattle.keep_words.proofs.SpanLemmas.{ends-otherwise, ends-with}
use Rattle.keep_words.proofs.span.parse_span.Goals as goal

pub returns-in_err-digits : goal.returns-in_err-digits
returns-in_err-digits c =
    let text = c.args.text.now in
    let s = rw c.in_default.is at (strip_suffix_char 115 text c.strip_suffix.result c.strip_suffix.ensures.cases (lit< tt)) in
    let m = rw c.in_default-strip_suffix.is at (strip_suffix_char 109 text c.strip_suffix-2.result c.strip_suffix-2.ensures.cases (lit< tt)) in
    let h = rw c.in_default-strip_suffix-2.is at (strip_suffix_char 104 text c.strip_suffix-3.result c.strip_suffix-3.ensures.cases (lit< tt)) in
    let d = rw c.in_default-strip_suffix-3.is at (strip_suffix_char 100 text c.strip_suffix-4.result c.strip_suffix-4.ensures.cases (lit< tt)) in
    let w = rw c.in_err-digits.was at (strip_suffix_char 119 text c.strip_suffix-5.result c.strip_suffix-5.ensures.cases (lit< tt)) in
    c.from_residual.ensures ∙ sym (ends-otherwise text s m h d w)

pub returns : goal.returns
returns c =
    let text = c.args.text.now in
    let w = rw c.in_ok-digits.was at (strip_suffix_char 119 text c.strip_suffix-5.result c.strip_suffix-5.ensures.cases (lit< tt)) in
    c.seconds-2.ensures ∙ sym (ends-with text c.in_ok-digits.digits.now 119 w)
