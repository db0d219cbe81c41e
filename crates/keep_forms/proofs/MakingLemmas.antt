-- Steps of making a command, and what comes of many.
use Rattle.std.proofs.Common.{◌≡◌, ◌∙◌, ◌++◌, Bool, List, [], ◌∷◌, true, false, ap, map, refl, sym}
use Rattle.std.proofs.lemmas.List.{append-nil, append_assoc}
use Rattle.std.specs.List.{fold}
use Rattle.std.specs.Prelude.{◌||◌}
use Rattle.clap.specs.Simple.{on_top}
use Rattle.clap.specs.Words.{App, Rule, Shape, new_app, with_subcommand}
use Rattle.keep_forms.specs.Form.{form_app, rule_in, shape_by, with_argument, with_arguments, with_forms}
use Rattle.keep_forms.specs.declared.form.Argument.{Argument}
use Rattle.keep_forms.specs.declared.form.Form.{Form}

-- what isn't global makes nothing global
pub or-no : (has : Bool) → (has || false) ≡ has
or-no true = refl
or-no false = refl

-- a command with these rules behind its own
abbrev pub with_rules : App → List Rule → App
with_rules app rules = on_top (λ s. record s { rules = s.rules ++ rules }) app

pub arguments-rules : (app : App) (arguments : List Argument) → with_arguments app arguments ≡ with_rules app (map rule_in arguments)
arguments-rules app [] = ap (λ (rules : List Rule). on_top (λ s. record s { rules = rules }) app) (sym (append-nil app.top.rules))
arguments-rules app (x ∷ xs) =
    arguments-rules (with_argument app x) xs
    ∙ ap (λ (rules : List Rule). on_top (λ s. record s { rules = rules }) app) (append_assoc app.top.rules (rule_in x ∷ []) (map rule_in xs))

-- a command as it is written has its rules, and the common ones behind them
pub form-shape : (common : List Argument) (form : Form) → (form_app common form).top ≡ shape_by (map rule_in common) form
form-shape common form =
    ap (λ (a : App). a.top) (arguments-rules (with_arguments (new_app form.name.now) form.arguments.now) common
    ∙ ap (λ (a : App). with_rules a (map rule_in common)) (arguments-rules (new_app form.name.now) form.arguments.now))

pub forms-shapes : (common : List Argument) (app : App) (forms : List Form)
    → with_forms common app forms ≡ fold with_subcommand app (map (shape_by (map rule_in common)) forms)
forms-shapes common app [] = refl
forms-shapes common app (f ∷ fs) =
    forms-shapes common (with_subcommand app (form_app common f).top) fs
    ∙ ap (λ (s : Shape). fold with_subcommand (with_subcommand app s) (map (shape_by (map rule_in common)) fs)) (form-shape common f)
