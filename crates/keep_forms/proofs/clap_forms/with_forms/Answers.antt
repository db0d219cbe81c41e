use Rattle.std.proofs.Common.{◌∙◌, Bool, ap, ap₂, arith, sym}
use Rattle.std.proofs.lemmas.List.Sums.{fold_more}
use Rattle.std.specs.Prelude.{◌||◌}
use Rattle.clap.specs.Words.{App, app_of, with_subcommand}
use Rattle.keep_forms.specs.Form.{with_form}
use Rattle.keep_forms.proofs.MakingLemmas.{or-no}
use Rattle.keep_forms.proofs.clap_forms.with_forms.Goals as goal

pub loop-form-preserved : goal.loop-form-preserved
loop-form-preserved c = (
  c.in_ok-more.ensures.shape c.in_ok-command_of.ensures.1
      ∙ ap₂ with_subcommand c.loop-form.invariant.0 (ap (λ (a : App). a.top) c.in_ok-command_of.ensures.0)
      ∙ sym (fold_more (with_form c.args.common.now) (app_of c.args.command) c.args.forms.now c.loop-form.form-index _ (omega (arith, c.loop-form-test.true))),
  c.in_ok-more.ensures.globals ∙ ap₂ (λ (a b : Bool). a || b) c.loop-form.invariant.1 c.in_ok-command_of.ensures.1 ∙ or-no _,
)
