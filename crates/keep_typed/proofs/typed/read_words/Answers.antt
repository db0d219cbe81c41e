use Rattle.std.proofs.Common.{◌≡◌, ◌∙◌, [], List, ℕ, ap, map, subst, sym}
use Rattle.clap.specs.Words.{App, HasKind, app_of, fault_of, is_simple, is_simple_and_free, matches_of, subcommand_of, subcommand_rows_of}
use Rattle.keep_forms.specs.Keep.{keep}
use Rattle.keep_words.specs.Read.{rows_in}
use Rattle.keep_typed.proofs.TypedLemmas.{keep-free, keep-simple, refused, taken}
use Rattle.keep_typed.proofs.typed.read_words.Goals as goal

pub returns-in-Ok : goal.returns-in-Ok
returns-in-Ok c =
    let words : List (List ℕ) = map (λ word. word.now) c.args.words.now in
    let is : app_of c.in_ok-command.command ≡ keep = c.in_ok-command.ensures.0 in
    let none : fault_of keep words ≡ [] =
    ap (λ (a : App). fault_of a words) (sym is) ∙ c.in-Ok.ensures.kinds (ap is_simple_and_free is ∙ keep-free) in
    let found = c.in-Ok.ensures.matches (ap is_simple is ∙ keep-simple) in
    taken words (rows_in c.in-Ok.matches) (subcommand_rows_of c.in-Ok.matches) c.read_matches.result none
    (found.0 ∙ ap (λ (a : App). matches_of a words) is) (found.1 ∙ ap (λ (a : App). subcommand_of a words) is) c.read_matches.ensures

pub returns-in-Err : goal.returns-in-Err
returns-in-Err c =
    let words : List (List ℕ) = map (λ word. word.now) c.args.words.now in
    let is : app_of c.in_ok-command.command ≡ keep = c.in_ok-command.ensures.0 in
    let fails = c.in-Err.ensures.kinds (ap is_simple_and_free is ∙ keep-free) in
    refused words c.in-Err.error (subst (λ (a : App). HasKind (fault_of a words) c.in-Err.error) is fails)
