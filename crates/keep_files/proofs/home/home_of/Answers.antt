use Rattle.std.proofs.Common.{ap, subst, sym, ◌∙◌, Some}
use Rattle.std.specs.Str.Iter.{LacksByte}
use Rattle.keep_files.proofs.Cut.{has_it, one_home, parted, uncut}
use Rattle.keep_files.proofs.home.home_of.Goals as goal

pub returns-in-Some-clause-home : goal.returns-in-Some-clause-home
returns-in-Some-clause-home c =
    let cut = parted c.args.path.now c.rsplit_once.result _ c.rsplit_once.ensures.cases c.in-Some.is in
    (_, cut.0, cut.1)

pub returns-in-Some-clause-only : goal.returns-in-Some-clause-only
returns-in-Some-clause-only c = λ home lies.
    let cut = parted c.args.path.now c.rsplit_once.result _ c.rsplit_once.ensures.cases c.in-Some.is in
    ap (λ h. Some h) (one_home _ _ home lies.0 cut.0 lies.1 (sym cut.1 ∙ lies.2))

pub returns-in-None-clause-home : goal.returns-in-None-clause-home
returns-in-None-clause-home c = uncut c.args.path.now c.rsplit_once.result c.rsplit_once.ensures.cases c.in-None.is

pub returns-in-None-clause-only : goal.returns-in-None-clause-only
returns-in-None-clause-only c = λ home lies.
    let lacks = uncut c.args.path.now c.rsplit_once.result c.rsplit_once.ensures.cases c.in-None.is in
    absurd (has_it home lies.0 (subst (LacksByte 47) lies.2 lacks))
