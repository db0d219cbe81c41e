use Rattle.std.proofs.Common.{◌∙◌, Bool, ap₂, arith, sym}
use Rattle.std.proofs.lemmas.List.Sums.{fold_more}
use Rattle.std.specs.Prelude.{◌||◌}
use Rattle.clap.specs.Words.{app_of, with_rule}
use Rattle.keep_forms.specs.Form.{with_argument}
use Rattle.keep_forms.proofs.MakingLemmas.{or-no}
use Rattle.keep_forms.proofs.clap_forms.with_arguments.Goals as goal

pub loop-argument-preserved : goal.loop-argument-preserved
loop-argument-preserved c = (
  c.in_ok-more.ensures.shape c.arg_of.ensures.local
      ∙ ap₂ with_rule c.loop-argument.invariant.0 c.arg_of.ensures.rule
      ∙ sym (fold_more with_argument (app_of c.args.command) c.args.arguments.now c.loop-argument.argument-index _ (omega (arith, c.loop-argument-test.true))),
  c.in_ok-more.ensures.globals ∙ ap₂ (λ (a b : Bool). a || b) c.loop-argument.invariant.1 c.arg_of.ensures.local ∙ or-no _,
)
