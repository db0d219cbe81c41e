use Rattle.std.proofs.Common.{◌≡◌, ◌≢◌, ℕ, List, ◌∷◌, ◌++◌, codes, None, inl, inr, refl, sym, subst, ◌∙◌}
use Rattle.keep_lines.proofs.Mistakes.{cut_first, no_bytes_added, no_file_dropped, no_kind, no_space_before, none_of_two}
use Rattle.keep_lines.specs.Command.{IsNoCommand}
use Rattle.keep_lines.specs.Mistake.{AsksHex, AsksTarget, EndsInNo, HasNoKind}
use Rattle.keep_lines.specs.Word.{AreBytes, IsTarget, hex_word, target_text}
use Rattle.keep_lines.proofs.mistake.mistake_of_file.Goals as goal

pub returns-in_default : goal.returns-in_default
returns-in_default c =
    none_of_two c.args.verb.now c.args.rest.now c.split_once.result c.requires.verb c.split_once.ensures.cases c.in_default.is

pub returns-in_default-parse_kind : goal.returns-in_default-parse_kind
returns-in_default-parse_kind c =
    let cut = cut_first c.args.rest.now c.split_once.result _ c.split_once.ensures.cases c.in-Some.is in
    subst (λ (l : List ℕ). HasNoKind (c.args.verb.now ++ 32 ∷ l)) (sym cut)
    (no_kind c.args.verb.now c.in-Some.word.now c.in-Some.field-0-1.now c.parse_kind.result c.requires.verb
    (no_space_before c.args.rest.now c.split_once.result _ c.split_once.ensures.cases c.in-Some.is) c.parse_kind.ensures c.in_default-parse_kind.is)

pub returns-in-add : goal.returns-in-add
returns-in-add c =
    let word = c.in-Some.word.now in
    let rest = c.in-Some.field-0-1.now in
    let cut = cut_first c.args.rest.now c.split_once.result _ c.split_once.ensures.cases c.in-Some.is in
    let whole : c.args.verb.now ++ 32 ∷ c.args.rest.now ≡ codes "add" ++ 32 ∷ (word ++ 32 ∷ rest) = rw (c.in-add.is, cut) refl in
    let some : c.parse_kind.result ≢ None = λ e. cc (sym c.in-Some-parse_kind.is ∙ e) in
    subst (EndsInNo AsksHex AreBytes hex_word) (sym whole) (no_bytes_added word rest c.parse_kind.result c.parse_kind.ensures some (subst IsNoCommand whole c.requires.none))

pub returns-in_default-verb : goal.returns-in_default-verb
returns-in_default-verb c =
    let word = c.in-Some.word.now in
    let rest = c.in-Some.field-0-1.now in
    let cut = cut_first c.args.rest.now c.split_once.result _ c.split_once.ensures.cases c.in-Some.is in
    let drop : c.args.verb.now ≡ codes "drop" = elim c.requires.verb [ inl add ↦ absurd (c.in_default-verb.not-add add) | inr drop ↦ drop ] in
    let whole : c.args.verb.now ++ 32 ∷ c.args.rest.now ≡ codes "drop" ++ 32 ∷ (word ++ 32 ∷ rest) = rw (drop, cut) refl in
    let some : c.parse_kind.result ≢ None = λ e. cc (sym c.in-Some-parse_kind.is ∙ e) in
    subst (EndsInNo AsksTarget IsTarget target_text) (sym whole) (no_file_dropped word rest c.parse_kind.result c.parse_kind.ensures some (subst IsNoCommand whole c.requires.none))
