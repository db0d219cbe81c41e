use Rattle.std.proofs.Common.{◌≡◌, ◌∙◌, List, ap, map, refl}
use Rattle.std.proofs.lemmas.Result.{IfOk-weaker}
use Rattle.std.specs.List.{fold}
use Rattle.clap.specs.Words.{App, Rule, Shape, app_of, with_subcommand}
use Rattle.keep_forms.specs.Form.{rule_in, shape_by, with_arguments, with_forms}
use Rattle.keep_forms.specs.Keep as spec
use Rattle.keep_forms.proofs.MakingLemmas.{arguments-rules, forms-shapes, with_rules}
use Rattle.keep_forms.specs.declared.form.Argument.{Argument}
use Rattle.keep_forms.specs.declared.form.Form.{Form}
use Rattle.keep_forms.proofs.clap_forms.keep_command.Goals as goal

-- forms whose shapes are known
step : (common : List Argument) (app : App) (forms : List Form) (shapes : List Shape) → map rule_in common ≡ spec.common → map (shape_by spec.common) forms ≡ shapes
    → with_forms common app forms ≡ fold with_subcommand app shapes
step common app forms shapes same known =
    forms-shapes common app forms
    ∙ ap (λ (rules : List Rule). fold with_subcommand app (map (shape_by rules) forms)) same
    ∙ ap (fold with_subcommand app) known

-- the three steps of making the command
steps : (common : List Argument) (changing reading : List Form) → map rule_in common ≡ spec.common → map (shape_by spec.common) changing ≡ spec.changing
    → map (shape_by spec.common) reading ≡ spec.reading
    → with_forms common (with_forms common (with_arguments spec.bare common) changing) reading ≡ spec.keep
steps common changing reading same changed read =
    step common (with_forms common (with_arguments spec.bare common) changing) reading spec.reading same read
    ∙ ap (λ (a : App). fold with_subcommand a spec.reading) (
    step common (with_arguments spec.bare common) changing spec.changing same changed
    ∙ ap (λ (a : App). fold with_subcommand a spec.changing) (arguments-rules spec.bare common ∙ ap (with_rules spec.bare) same))
    ∙ all
  where
    all : fold with_subcommand (fold with_subcommand (with_rules spec.bare spec.common) spec.changing) spec.reading ≡ spec.keep
    all = refl

pub returns : goal.returns
returns c =
    let common = c.common-common.result in
    let first : app_of c.in_ok-command.command ≡ with_arguments spec.bare common =
    c.in_ok-command.ensures.0 ∙ ap (λ (a : App). with_arguments a common) c.bare.ensures.0 in
    let second : app_of c.in_ok-command-2.command ≡ with_forms common (with_arguments spec.bare common) c.changing.result =
    c.in_ok-command-2.ensures.0 ∙ ap (λ (a : App). with_forms common a c.changing.result) first in
    let third = steps common c.changing.result c.reading.result c.common-common.ensures c.changing.ensures c.reading.ensures in
    IfOk-weaker c.with_forms-2.result _ _ (λ made h. (
      h.0 ∙ ap (λ (a : App). with_forms common a c.reading.result) second ∙ third,
      h.1 ∙ c.in_ok-command-2.ensures.1 ∙ c.in_ok-command.ensures.1 ∙ c.bare.ensures.1,
    )) c.with_forms-2.ensures
