use Rattle.std.proofs.Common.{sym, subst}
use Rattle.std.proofs.lemmas.Result.{IfOk-weaker}
use Rattle.keep_members.specs.Carried.{StandsAnywhere}
use Rattle.keep_members.specs.Members.{members_data}
use Rattle.keep_members.specs.Texts.{texts_view}
use Rattle.keep_members.proofs.Standing.{fields_stand, held_texts}
use Rattle.keep_members.proofs.carried_members.carried.Goals as goal

pub returns-clause-written : goal.returns-clause-written
returns-clause-written c =
    IfOk-weaker c.carried_with.result _ _ (λ carried e. (texts_view c.in_ok-texts.texts, c.in_ok-texts.ensures, e)) c.carried_with.ensures

pub returns-clause-stands : goal.returns-clause-stands
returns-clause-stands c =
    let all = fields_stand (members_data c.args.members.now) (texts_view c.in_ok-texts.texts) c.is_said.ensures (held_texts c.in_ok-texts.texts) in
    IfOk-weaker c.carried_with.result _ _ (λ carried e. subst StandsAnywhere (sym e) all) c.carried_with.ensures
