use Rattle.std.proofs.Common.{[], List, ap, subst}
use Rattle.keep_targets.specs.Call.{Call}
use Rattle.keep_putting.proofs.Care.{both}
use Rattle.keep_putting.proofs.Put.{begun_made}
use Rattle.keep_putting.specs.Careful.{IsCarefulFrom}
use Rattle.keep_putting.specs.Putting.{Stage}
use Rattle.keep_putting.proofs.putting_back.put_back.Goals as goal

pub put_all-requires : goal.put_all-requires
put_all-requires g c = begun_made _ _ (ap (λ (s : Stage). s.folders) c.in_ok-course.ensures.begun)

pub returns-in_err-finish_all-clause-careful : goal.returns-in_err-finish_all-clause-careful
returns-in_err-finish_all-clause-careful g c =
    both [] _ _ (subst (λ (calls : List Call). IsCarefulFrom calls (g.T.Target.calls c.put_all.new.target)) c.requires c.put_all.ensures.careful) c.finish_all.ensures.careful

pub returns-clause-careful : goal.returns-clause-careful
returns-clause-careful g c =
    both [] _ _ (subst (λ (calls : List Call). IsCarefulFrom calls (g.T.Target.calls c.put_all.new.target)) c.requires c.put_all.ensures.careful) c.finish_all.ensures.careful
