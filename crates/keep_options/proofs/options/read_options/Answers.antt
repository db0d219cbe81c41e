use Rattle.std.proofs.Common.{◌≡◌, ◌∙◌, [], List, ℕ, Bor, ap, map, sym, subst, codes}
use Rattle.std.specs.List.{list_any}
use Rattle.std.specs.Str.{bytes_eq}
use Rattle.clap.proofs.WalkLemmas.{list_any-map}
use Rattle.clap.specs.Words.{App, HasKind, app_of, fault_of, found_of, is_simple, is_simple_and_free, kind_of, matches_of, rows_of}
use Rattle.keep_options.specs.Option as options
use Rattle.keep_options.proofs.OptionLemmas.{command-free, command-simple, dashes-refused, has_dashes, refused-after, refused-reads, taken, taken-reads}
use Rattle.keep_options.proofs.options.read_options.Goals as goal

dashes_among : (words : List (Bor (List ℕ))) → list_any (λ word. bytes_eq word.now (codes "--")) words ≡ has_dashes (map (λ word. word.now) words)
dashes_among words = list_any-map (λ word. bytes_eq word (codes "--")) (λ (word : Bor (List ℕ)). word.now) words

pub returns-then-has_dashes-clause-given : goal.returns-then-has_dashes-clause-given
returns-then-has_dashes-clause-given c =
    dashes-refused (map (λ word. word.now) c.args.words.now)
    (sym (dashes_among c.args.words.now) ∙ sym c.has_dashes.ensures ∙ c.if-has_dashes.true)

pub returns-in_err-matches-clause-given : goal.returns-in_err-matches-clause-given
returns-in_err-matches-clause-given c =
    let words : List (List ℕ) = map (λ word. word.now) c.args.words.now in
    let clean = sym (dashes_among c.args.words.now) ∙ sym c.has_dashes.ensures ∙ c.if-has_dashes.false in
    let is : app_of c.in_ok-command.command ≡ options.command = c.in_ok-command.ensures in
    let fails = c.in_err-matches.ensures.kinds (ap is_simple_and_free is ∙ command-free) in
    let cause = c.in_err-matches.field-0.0 in
    let among = subst (λ (a : App). HasKind (fault_of a words) cause) is fails in
    refused-after words (kind_of cause) c.from_residual-in_err-matches.result (refused-reads words (kind_of cause) clean among)
    c.from_residual-in_err-matches.ensures.1

pub returns-clause-given : goal.returns-clause-given
returns-clause-given c =
    let words : List (List ℕ) = map (λ word. word.now) c.args.words.now in
    let clean = sym (dashes_among c.args.words.now) ∙ sym c.has_dashes.ensures ∙ c.if-has_dashes.false in
    let is : app_of c.in_ok-command.command ≡ options.command = c.in_ok-command.ensures in
    let free = ap is_simple_and_free is ∙ command-free in
    let rows : rows_of (found_of c.in_ok-matches.matches) ≡ matches_of options.command words =
    (c.in_ok-matches.ensures.matches (ap is_simple is ∙ command-simple)).0 ∙ ap (λ (a : App). matches_of a words) is in
    let none : fault_of options.command words ≡ [] = ap (λ (a : App). fault_of a words) (sym is) ∙ c.in_ok-matches.ensures.kinds free in
    let given = taken words clean none ∙ ap options.options_in (sym rows) in
    taken-reads words _ c.options_in.result given c.options_in.ensures.said
